-- Which node a disk opens to.
use Rattle.std.specs.Prelude.{◌⊎◌, Bool, true, false, ◌==◌, ◌&&◌}
use Rattle.std.specs.Coded.{Coded, codes}
use base.Stored.{Gv, gnil, gnum, gcons}
use Rattle.model.specs.View.{NodeView, kept_view}
use Rattle.node.specs.Keeping.{WholeNode, alone}
use Rattle.disk.specs.Areas.{Areas}
use Rattle.node_store.specs.Plain.{Keeps}

-- The disk opens to this node, which keeps no early message: to an image, and to the events behind
-- it if a log follows it.
abbrev pub OpensToNode : WholeNode → Areas → Type 0
OpensToNode n c = Keeps n c

abbrev pub OpensTo : NodeView → Areas → Type 0
OpensTo n c = OpensToNode (alone n) c

-- the disk opens to the last saved node, or to the current one as it is once saved
abbrev pub OpensToEither : NodeView → NodeView → Areas → Type 0
OpensToEither saved n c = OpensTo saved c ⊎ OpensTo (kept_view n) c

-- Whether two nodes are equal. Each is written as a tree of numbers, from which it can be told.
pub node_code : Coded NodeView
node_code = hlevel codes

unfoldable pub same_tree : Gv → Gv → Bool
same_tree gnil gnil = true
same_tree (gnum m) (gnum n) = m == n
same_tree (gcons a b) (gcons c d) = same_tree a c && same_tree b d
same_tree x y = false

abbrev pub is_same_node : NodeView → NodeView → Bool
is_same_node m n = same_tree (node_code.code m) (node_code.code n)

-- whatever a crash leaves opens to the last saved node
abbrev pub HoldsSaved : (Areas → Type 0) → NodeView → Type 0
HoldsSaved may_leave saved = (c : Areas) → may_leave c → ∥ OpensTo saved c ∥₁
