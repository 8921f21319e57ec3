-- The conditions that a saved node meets, in addition to having a spelling. Bytes that spell a node
-- which doesn't meet them are not an image.
use Rattle.std.specs.Prelude.{ℕ, ◌<◌, ◌≤◌, length, slice_index_or}
use Rattle.std.specs.List.{AllByRecursion}
use Rattle.ids.specs.Limits.{Shaped, IsShape}
use Rattle.ids.specs.declared.limits.TheConstants.{GREATEST_NUMBER}
use Rattle.msg.specs.declared.body.Message.{Message}
use Rattle.cycles.specs.Phases.{IsPhases}
use Rattle.heap.specs.Heap.{IsSlotted}
use Rattle.model.specs.State.{got_from}
use Rattle.model.specs.Steps.{mentioned}
use Rattle.model.specs.References.{HoldsOnly, IsPlaced, IsWithin, no_message}
use Rattle.model.specs.View.{NodeView, link_to, used}
use Rattle.model.specs.WellFormed.{IsStocked, AreAsked, IsHeld}
use Rattle.node.specs.Invariant.{IsBalanced}

-- a message that isn't of a later cycle, whose references fit into the shape, and whose place an
-- object of the space may have
pub record IsTimely (shape : Shaped) (cycle : ℕ) (x : Message) : Type 0 where
  pub stamp : x.stamp ≤ cycle
  pub references : AllByRecursion (IsWithin shape) (mentioned x.body)
  pub place : IsPlaced shape x.body

pub record IsSaved (n : NodeView) : Type 0 where
  pub shape : IsShape n.local.shape
  pub own : n.local.own < n.local.shape.nodes
  pub phases : IsPhases n.local.phases
  -- the next slot to sweep is one that was used, or the one after the last
  pub cursor : n.local.phases.cursor ≤ length n.local.heap.slots
  -- the token is held only while marking continues; once it has come home for good, it is gone
  pub token : IsHeld n.local.phases.cycle n.local.phases.ended n.local.ring.token
  -- no slot is assigned twice, and none is lost
  pub slots : IsSlotted n.local.heap n.local.shape.slots
  pub stocked : IsStocked n.local.shape n.local.own n.local.phases.cycle n.local.phases.ended
      n.local.heap
  pub references : HoldsOnly (IsWithin n.local.shape) n.local.heap
  pub asked : AreAsked n.local.shape n.local.own n.local.asked
  pub messages : (i k : ℕ)
      → IsTimely n.local.shape n.local.phases.cycle
      (slice_index_or (link_to n i).unacknowledged k no_message)
  -- the numbers of messages are within the limit
  pub sent : (i : ℕ) → used (link_to n i) ≤ GREATEST_NUMBER
  pub received : (i : ℕ) → got_from n.local i ≤ GREATEST_NUMBER
  -- each message changed a balance by at most one
  pub balance : IsBalanced n.local.ring n.links n.local.got
