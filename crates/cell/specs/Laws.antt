-- What the theorems on lists of steps say about cells. The premises are what a cell's calls ensure,
-- that the node shows the seat's state (as each cell guarantees), and that a run reaches the world
-- in which the wire was made, except perhaps for messages that are acknowledged (`IsReached`). In
-- that world the nodes were new, or as a run had saved them.
use Rattle.std.specs.Prelude.{◌≡◌, ◌≢◌, ℕ, Bool, List, [], ◌∷◌, ◌++◌, length, slice_get, Some, Ok, Err}
use Rattle.ids.specs.Limits.{Shaped}
use Rattle.ids.specs.declared.refusal.Refusal.{Refusal}
use Rattle.ids.specs.declared.refusal.Refusal.TheVariants.{LinkSpent, Memory}
use Rattle.ids.specs.declared.names.Ref.{Ref}
use Rattle.msg.specs.declared.body.Message.{Message}
use Rattle.msg.specs.declared.frame.Ack.{Ack}
use Rattle.msg.specs.declared.frame.Data.{Data}
use Rattle.msg.specs.declared.frame.Frame.TheVariants as frame
use Rattle.model.specs.declared.age.Scope.{Scope}
use Rattle.model.specs.declared.age.Scope.TheVariants as scope
use Rattle.model.specs.declared.event.Event.{Event}
use Rattle.model.specs.declared.event.Event.TheVariants as event
use Rattle.model.specs.declared.event.Answer.{Answer}
use Rattle.model.specs.declared.step.Step.{Step}
use Rattle.model.specs.declared.step.Step.TheVariants as step
use Rattle.model.specs.State.{NodeState, Object, node_at}
use Rattle.model.specs.Reclaiming.{aging}
use Rattle.model.specs.View.{NodeView, Shows}
use Rattle.model.specs.World.{World, new_world, run}
use Rattle.model.specs.Cuts.{Among, Cut, IsInFlight, cut}
use Rattle.model.specs.Steps.{mentioned}
use Rattle.laws.specs.Privacy.{IsPrivate, IsReclaimed, IsYoungReclaimed, Knows}
use Rattle.laws.specs.Statements.{IsSpentOrEarly, KeepsReachable}
use Rattle.cell.specs.declared.trace.TraceLine.{TraceLine}
use Rattle.node.specs.Keeping.{WholeNode}
use Rattle.disk.specs.Areas.{Areas, IsBlank}
use Rattle.wire.specs.Readers.{AreOpened}
use Rattle.wire.specs.Rule.{AreEvents}
use Rattle.wire.specs.Views.{Known, pair_at}
use Rattle.cell.specs.Desks.{IsSavedNode, StandsAt}
use Rattle.cell.specs.Disks.{OpensTo}
use Rattle.cell.specs.Events.{Given}
use Rattle.cell.specs.Opened.{cores, world_of, IsReadFrom}
use Rattle.cell.specs.Pumping.{TookIn}
use Rattle.cell.specs.Reached.{IsReached}

-- all nodes restart from their saved states
abbrev pub restarted : World → World
restarted w = record { current = w.saved; saved = w.saved }

-- What a cell left on its disk, as its type guarantees, even after a crash: the disk opens to a
-- node that shows this state, the last saved one.
pub record IsLeft (me width : ℕ) (s : NodeState) (c : Areas) : Type 0 where
  pub node : NodeView
  pub saved : IsSavedNode me width s node
  pub opens : ∥ OpensTo node c ∥₁

-- Nodes that are read from what the cells of a space left have the states of the world in which all
-- nodes restart from their saved states. So a wire can begin in that world.
abbrev pub LeftIsOpened : Type 0
LeftIsOpened =
    (shape : Shaped) (w : World) (nodes : List WholeNode) → length w.saved ≡ shape.nodes
    → length nodes ≡ shape.nodes
    → ((k : ℕ) (n : WholeNode) → slice_get nodes k ≡ Some n → (c : Areas)
    × IsLeft k shape.nodes (node_at w.saved k) c × IsReadFrom shape k c n)
    → AreOpened shape (cores nodes) (restarted w)

-- If nothing was ever created on any of the disks, the nodes that are read from them are new, and
-- their world is that of new nodes.
abbrev pub BlankIsNew : Type 0
BlankIsNew =
    (shape : Shaped) (nodes : List WholeNode) → length nodes ≡ shape.nodes
    → ((k : ℕ) (n : WholeNode) → slice_get nodes k ≡ Some n → (c : Areas) × IsBlank c
    × IsReadFrom shape k c n)
    → world_of (cores nodes) ≡ new_world shape

-- a cell's call in which its node answered this event
pub record HasDone (e : Event) (old new : WholeNode) (v w : Known) : Type 0 where
  pub answer : Answer
  pub given : Given e e (step.Act v.me e) (Ok answer) old new v w

-- An event of a cell frees nothing that is reachable. Some list of events that ends with it leads
-- to what the seat knows. What is reachable just before the event is in its slot before it, and so
-- is what `makes` makes of it after it.
abbrev pub FreesNoneReachable : Event → (Object → Object) → Type 0
FreesNoneReachable e makes =
    (old new : WholeNode) (v w : Known) → IsReached v.opening
    → Shows old.core v.pair.current → HasDone e old new v w
    → (log : List Step)
    × AreEvents v.opening (log ++ step.Act v.me e ∷ [])
    × (pair_at (run v.opening log) v.me ≡ v.pair)
    × (pair_at (run v.opening (log ++ step.Act v.me e ∷ [])) v.me ≡ w.pair)
    × KeepsReachable makes (run v.opening log) v.me old.core.local.heap new.core.local.heap

-- no sweep does, nor any reclaim
abbrev pub CellsFreeNoneReachable : Type 0
CellsFreeNoneReachable = (count : ℕ) → FreesNoneReachable (event.Sweep count) (λ o. o)

abbrev pub CellsReclaimNoneReachable : Type 0
CellsReclaimNoneReachable = (scope : Scope) → FreesNoneReachable (event.Reclaim scope) aging

-- After a reclaim of all, a cell's node has exactly the objects that it needed.
abbrev pub CellsReclaimGarbage : Type 0
CellsReclaimGarbage =
    (old new : WholeNode) (v w : Known) (done : HasDone (event.Reclaim scope.All) old new v w)
    → (s : NodeState) × IsReclaimed v.pair.current s done.answer × Shows new.core s

-- After a reclaim of the young, it has its old objects, and of the others those that it needed.
abbrev pub CellsReclaimYoung : Type 0
CellsReclaimYoung =
    (old new : WholeNode) (v w : Known) (done : HasDone (event.Reclaim scope.Young) old new v w)
    → (s : NodeState) × IsYoungReclaimed v.pair.current s done.answer × Shows new.core s

-- no other node has the reference, and nothing in flight mentions it
pub record IsHidden (c : Cut) (r : Ref) : Type 0 where
  pub nodes : (i : ℕ) → i ≢ r.node → Knows (c i).local r → ⊥
  pub flights : (from to place : ℕ) (x : Message) → IsInFlight c from to place x
      → Among r (mentioned x.body) → ⊥

-- A private object is unknown outside its node, in every cut.
abbrev pub PrivateIsHidden : World → Type 0
PrivateIsHidden w =
    (choice : ℕ → Bool) (r : Ref) → IsPrivate (cut w choice) r → IsHidden (cut w choice) r

-- a cell's call in which a message that it took from the wire was refused
pub record HasRefused (d : Data) (e : Refusal) (old : WholeNode) (v : Known) : Type 0 where
  pub box : ℕ
  pub from : ℕ
  pub new : WholeNode
  pub w : Known
  pub before : List TraceLine
  pub after : List TraceLine
  pub took : TookIn box from (Err e) old new v w before after
  pub is : took.frame ≡ frame.Data d

-- A cell refuses a message that it took from the wire in three cases only. The message is so early
-- that the node has no place for it; a message that it makes the node send would need a number
-- above the greatest; or memory runs out.
abbrev pub CellsRefuseNoneInTurn : Type 0
CellsRefuseNoneInTurn =
    (d : Data) (e : Refusal) (old : WholeNode) (v : Known) → IsReached v.opening
    → Shows old.core v.pair.current → HasRefused d e old v → e ≢ Memory
    → IsSpentOrEarly old.core.local d.from d.number e

-- a cell's call in which an acknowledgement that it took from the wire was refused
pub record HasRefusedAck (a : Ack) (old : WholeNode) (v : Known) : Type 0 where
  pub refusal : Refusal
  pub box : ℕ
  pub from : ℕ
  pub new : WholeNode
  pub w : Known
  pub before : List TraceLine
  pub after : List TraceLine
  pub took : TookIn box from (Err refusal) old new v w before after
  pub is : took.frame ≡ frame.Ack a

-- A cell never refuses an acknowledgement that it took from the wire.
abbrev pub CellsRefuseNoAck : Type 0
CellsRefuseNoAck =
    (a : Ack) (me width : ℕ) (old : WholeNode) (v : Known) → IsReached v.opening
    → StandsAt me width v.pair old.core → HasRefusedAck a old v → ⊥

-- A cell refuses a message that it kept until its turn in two cases only: a message that it makes
-- the node send would need a number above the greatest, or memory runs out.
abbrev pub NextIsTakenIn : Type 0
NextIsTakenIn =
    (from : ℕ) (d : Data) (s : Step) (e : Refusal) (old new : WholeNode) (v w : Known)
    → IsReached v.opening → Shows old.core v.pair.current
    → Given (event.Next from) (event.Data d) s (Err e) old new v w → e ≢ Memory → e ≡ LinkSpent
