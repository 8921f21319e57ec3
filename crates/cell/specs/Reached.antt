-- Worlds that a run reaches, except for messages that are acknowledged. No disk keeps such a
-- message, and no later event depends on it. So a world that differs from a reached one only in
-- such messages goes on in the same way.
use Rattle.std.specs.Prelude.{◌≡◌, ◌↔◌, ◌≤◌, ℕ, Bool, List, Some, drop, length, map, slice_get}
use Rattle.ids.specs.Limits.{Shaped, IsShape}
use Rattle.ids.specs.declared.names.Ref.{Ref}
use Rattle.model.specs.declared.step.Step.{Step}
use Rattle.model.specs.State.{NodeState, node_at, sent_to}
use Rattle.model.specs.View.{link_to}
use Rattle.model.specs.World.{World, acknowledged, new_world, run}
use Rattle.model.specs.Cuts.{cut, Reachable}
use Rattle.node.specs.Keeping.{WholeNode}
use Rattle.wire.specs.Readers.{AreOpened}
use Rattle.wire.specs.Rule.{AreEvents}
use Rattle.cell.specs.Opened.{cores, world_of}

-- The states differ at most in the messages to each node up to a number.
pub record IsLike (acked : ℕ → ℕ) (s t : NodeState) : Type 0 where
  pub local : s.local ≡ t.local
  pub counts : map length s.sent ≡ map length t.sent
  pub later : (to : ℕ) → drop (acked to) (sent_to s to) ≡ drop (acked to) (sent_to t to)

-- the same for the states of each node
pub record AreLike (acked : ℕ → ℕ → ℕ) (ss ts : List NodeState) : Type 0 where
  pub width : length ss ≡ length ts
  pub each : (i : ℕ) → IsLike (acked i) (node_at ss i) (node_at ts i)

-- The worlds differ at most in messages that are acknowledged.
pub record AreAlike (w v : World) : Type 0 where
  pub current : AreLike (acknowledged v) w.current v.current
  pub saved : AreLike (acknowledged v) w.saved v.saved

-- A run of a space of this shape reaches the world, except perhaps for messages that are
-- acknowledged.
pub record IsReached (w : World) : Type 0 where
  pub shape : Shaped
  pub limits : IsShape shape
  pub steps : List Step
  pub by : AreAlike w (run (new_world shape) steps)

-- each node has dropped only messages that are acknowledged in this world
abbrev pub AreHeld : List WholeNode → World → Type 0
AreHeld nodes w =
    (k to : ℕ) (n : WholeNode) → slice_get nodes k ≡ Some n
    → (link_to n.core to).base ≤ acknowledged w k to

-- A wire may begin in the world of these nodes: a run reaches it, and each node still has the
-- messages that aren't acknowledged in it.
abbrev pub BeginReached : List WholeNode → Type 0
BeginReached nodes = IsReached (world_of (cores nodes)) × AreHeld nodes (world_of (cores nodes))

-- Worlds that differ at most in acknowledged messages go on alike: what is an event of one is an
-- event of the other, and afterwards they still differ at most in acknowledged messages.
abbrev pub AlikeGoOn : Type 0
AlikeGoOn =
    (w v : World) (log : List Step) → IsReached v → AreAlike w v → AreEvents w log
    → AreEvents v log × AreAlike (run w log) (run v log)

-- the same is reachable in both
abbrev pub AlikeReach : Type 0
AlikeReach =
    (w v : World) (choice : ℕ → Bool) (r : Ref) → IsReached v → AreAlike w v
    → Reachable (cut w choice) r ↔ Reachable (cut v choice) r

-- If a run reaches a world whose states the nodes have, with everything saved, then it reaches the
-- world of these nodes too. No node may have dropped a message that isn't acknowledged.
abbrev pub WorldOfIsReached : Type 0
WorldOfIsReached =
    (shape : Shaped) (w : World) (nodes : List WholeNode) → IsReached w
    → AreOpened shape (cores nodes) w → AreHeld nodes w → BeginReached nodes
