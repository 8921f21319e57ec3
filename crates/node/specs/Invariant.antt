-- What holds of every node ("Well-formed nodes" in docs/RULES.md), by the parts that it reads.
use Rattle.std.specs.Prelude.{◌≡◌, ℕ, ◌+◌, ◌<◌, ◌≤◌, List, length, slice_index_or}
use Rattle.std.specs.List.{sum_by}
use Rattle.ids.specs.Limits.{Shaped, IsShape}
use Rattle.heap.specs.Heap.{IsSlotted}
use Rattle.link.specs.Links.{LinksView, IsLinks}
use Rattle.model.specs.State.{Slot, Phases, Ring}
use Rattle.model.specs.View.{Link, NodeView, used, no_link}
use Rattle.model.specs.References.{HoldsOnly, IsWithin, IsSendable, no_message}
use Rattle.model.specs.WellFormed.{IsStocked, AreAsked, IsHeld, AreReports, AreTimely}
use Rattle.cycles.specs.Phases.{IsPhases}
use Rattle.cycles.specs.Balances.{IsBounded}

-- the number of messages appended and of messages received, together
abbrev pub number_sum : List Link → List ℕ → ℕ
number_sum links got = sum_by used links + sum_by (λ (k : ℕ). k) got

-- The two balances together are no larger than the number of messages, whatever their signs. So
-- they fit their type.
abbrev pub IsBalanced : Ring → List Link → List ℕ → Type 0
IsBalanced r links got = IsBounded (number_sum links got) r

-- every message that is kept may be sent in a space of this shape
abbrev pub AllSendable : Shaped → List Link → Type 0
AllSendable shape links =
    (i k : ℕ)
    → IsSendable shape (slice_index_or (slice_index_or links i no_link).unacknowledged k no_message)

-- the links of a node in this cycle to all nodes of the shape
pub record AreLinked (shape : Shaped) (own cycle : ℕ) (l : LinksView) : Type 0 where
  pub width : length l.links ≡ shape.nodes
  pub links : IsLinks l
  pub messages : AllSendable shape l.links
  pub timely : AreTimely own cycle l.links l.got

abbrev pub links_of : NodeView → LinksView
links_of n = record { links = n.links; got = n.local.got; acks = n.acks }

-- the phases of a node with these slots, in a space of `nodes` nodes
pub record ArePhased (nodes own : ℕ) (slots : List Slot) (p : Phases) : Type 0 where
  pub phases : IsPhases p
  pub cursor : p.cursor ≤ length slots
  pub reports : length p.reports ≡ nodes
  pub heard : AreReports own p.reports

pub record IsNode (n : NodeView) : Type 0 where
  pub shape : IsShape n.local.shape
  pub own : n.local.own < n.local.shape.nodes
  pub references : HoldsOnly (IsWithin n.local.shape) n.local.heap
  pub stocked : IsStocked n.local.shape n.local.own n.local.phases.cycle n.local.phases.ended
      n.local.heap
  pub asked : AreAsked n.local.shape n.local.own n.local.asked
  pub phases : ArePhased n.local.shape.nodes n.local.own n.local.heap.slots n.local.phases
  pub token : IsHeld n.local.phases.cycle n.local.phases.ended n.local.ring.token
  pub links : AreLinked n.local.shape n.local.own n.local.phases.cycle (links_of n)
  pub balance : IsBalanced n.local.ring n.links n.local.got

-- a node that may be saved and made again: it is well-formed, and its heap is one of its shape
pub record IsStanding (n : NodeView) : Type 0 where
  pub node : IsNode n
  pub slots : IsSlotted n.local.heap n.local.shape.slots
