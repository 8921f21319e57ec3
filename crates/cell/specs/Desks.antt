-- What holds of a node and its seat between two calls.
use Rattle.std.specs.Prelude.{◌≡◌, ◌⊎◌, ◌≤◌, ℕ, Bool, false, List, Some, length, replicate, slice_get, take}
use Rattle.ids.specs.declared.limits.TheConstants.{GREATEST_NODES}
use Rattle.msg.specs.Frames.{Plain, ack_frame, plain_data}
use Rattle.msg.specs.declared.frame.Data.{Data}
use Rattle.model.specs.State.{NodeState, sent_to}
use Rattle.model.specs.View.{NodeView, Shows, kept_view, link_to}
use Rattle.node.specs.Keeping.{OfAll, Rings, WholeNode}
use Rattle.wire.specs.Views.{Known, Pair}
use Rattle.wire.specs.Readers.{known, seat_node}
use Rattle.wire.specs.declared.seats.NodeSeat.{NodeSeat}

-- the seat of this node, in a space of this many nodes
pub record IsSeatAt (me width : ℕ) (s : NodeSeat) : Type 0 where
  pub own : seat_node s ≡ me
  pub nodes : s.nodes ≡ width

-- all that the saved state has sent, the current one has sent too, perhaps with more after it
abbrev pub IsBehind : NodeState → NodeState → Type 0
IsBehind saved current =
    (j : ℕ) → take (length (sent_to saved j)) (sent_to current j) ≡ sent_to saved j

-- The node shows the current state of the pair, and counts as saved what the saved state has: its
-- messages are released up to there, and what that state has received is acknowledged.
pub record StandsAt (me width : ℕ) (p : Pair) (n : NodeView) : Type 0 where
  pub own : n.local.own ≡ me
  pub nodes : n.local.shape.nodes ≡ width
  pub shows : Shows n p.current
  pub released : (j : ℕ) → (link_to n j).kept ≡ length (sent_to p.saved j)
  pub acks : n.acks ≡ p.saved.local.got
  pub behind : IsBehind p.saved p.current

-- the node shows the state, and all of its messages count as saved
pub record IsSavedNode (me width : ℕ) (s : NodeState) (n : NodeView) : Type 0 where
  pub own : n.local.own ≡ me
  pub nodes : n.local.shape.nodes ≡ width
  pub shows : Shows n s
  pub kept : kept_view n ≡ n

-- if this is false, the current state is the saved one
abbrev pub IsUnsaved : Bool → Pair → Type 0
IsUnsaved unsaved p = unsaved ≡ false → p.current ≡ p.saved

-- the seat took the frame of this message from the wire
abbrev pub IsTaken : List Plain → Data → Type 0
IsTaken taken d = ∥ ((k : ℕ) × (slice_get taken k ≡ Some (plain_data d))) ∥₁

-- each message that a node keeps is one whose frame its seat took
pub record AreTaken (taken : List Plain) (es : Rings) : Type 0 where
  pub each : OfAll (λ from d. IsTaken taken d) es

-- The node dropped no more messages to node `to` than the first number, or than a frame
-- acknowledges that its seat took.
abbrev pub IsDropped : ℕ → Known → ℕ → ℕ → Type 0
IsDropped origin v to base =
    ∥ ((base ≤ origin) ⊎ ((k : ℕ) × (number : ℕ)
    × (slice_get v.taken k ≡ Some (ack_frame to v.me number)) × (base ≤ number))) ∥₁

-- The same for each other node; the first numbers are those of the node as its cell was made.
pub record HasDropped (origin : NodeView) (v : Known) (n : NodeView) : Type 0 where
  pub each : (to : ℕ) → IsDropped (link_to origin to).base v to (link_to n to).base

-- the node is in the state that its own seat knows, with everything saved
pub record IsAtSeat (n : NodeView) (s : NodeSeat) : Type 0 where
  pub own : n.local.own ≡ seat_node s
  pub nodes : n.local.shape.nodes ≡ s.nodes
  pub shows : Shows n (known s).pair.current
  pub saved : (known s).pair.saved ≡ (known s).pair.current

-- ---- A desk as its callers see it

pub record DeskView : Type 0 where
  -- the current node, with the messages that it keeps until their turn
  pub node : WholeNode
  -- the last saved node
  pub saved : NodeView
  pub seat : NodeSeat
  -- for each node: the place, in the window to it, of the frame that is sent next
  pub places : List ℕ
  -- whether an event happened since the last save or reopening
  pub unsaved : Bool

-- the desk of a node that was just found on its disk
abbrev pub new_desk : WholeNode → NodeSeat → DeskView
new_desk node seat = record {
  node = node;
  saved = node.core;
  seat = seat;
  places = replicate GREATEST_NODES 0;
  unsaved = false;
}

-- What a desk guarantees between two calls. The node shows the current state that its seat's events
-- lead to, and the last saved node shows the saved state.
pub record IsSoundAt (d : DeskView) : Type 0 where
  pub stands : StandsAt (seat_node d.seat) d.seat.nodes (known d.seat).pair d.node.core
  pub was : IsSavedNode (seat_node d.seat) d.seat.nodes (known d.seat).pair.saved d.saved
  pub unsaved : IsUnsaved d.unsaved (known d.seat).pair
  pub taken : AreTaken (known d.seat).taken d.node.early

-- What an event of the node leaves unchanged: the saved node, and the places in the windows.
abbrev pub GoesOnAt : DeskView → DeskView → Type 0
GoesOnAt old new =
    new ≡ record old { node = new.node; seat = new.seat; unsaved = new.unsaved }
