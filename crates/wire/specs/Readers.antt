-- What clauses say about a wire, its seats and its watches.
use Rattle.std.specs.Prelude.{◌≡◌, ℕ, ◌+◌, ◌*◌, List, length, Some, slice_get, Vec}
use Rattle.std.specs.Global.{Global}
use Rattle.atomic_table.specs.declared.shared.Seat.{Seat}
use Rattle.ids.specs.Limits.{Shaped}
use Rattle.model.specs.declared.step.Step.{Step}
use Rattle.model.specs.State.{NodeState, node_at, sent_to}
use Rattle.model.specs.View.{NodeView, Shows, link_to}
use Rattle.model.specs.World.{World}
use Rattle.wire.specs.Views.{Known, dealer_of, node_of_opening, watch_of}
use Rattle.wire.specs.declared.views.View.{View}
use Rattle.wire.specs.declared.seats.Wire.{Wire}
use Rattle.wire.specs.declared.seats.NodeSeat.{NodeSeat}
use Rattle.wire.specs.declared.seats.Watch.{Watch}
use Rattle.wire.specs.declared.seats.Claim.{Claim}
use Rattle.wire.specs.declared.seats.Taken.{Taken}
use Rattle.wire.specs.declared.seats.Raised.{Raised}
use Rattle.wire.specs.declared.seats.Note.{Note}

-- ---- A wire

-- how many nodes it joins
abbrev pub width : Wire → ℕ
width w = w.nodes

-- the world in which it was made
abbrev pub opened_with : Wire → World
opened_with w = w.table.shared.key.world

-- ---- The seat of a node

-- what it knows
abbrev pub known : NodeSeat → Known
known s = s.seat.me.0

abbrev pub seat_node : NodeSeat → ℕ
seat_node s = s.node

-- it belongs to this wire, and to the world with which the wire was made
abbrev pub IsSeatOf : Wire → NodeSeat → Type 0
IsSeatOf w s =
    (s.seat.table_id ≡ w.table.shared.table_id) × (s.nodes ≡ w.nodes)
    × ((known s).opening ≡ opened_with w)

-- the same seat, although it may know different things
abbrev pub IsSame : NodeSeat → NodeSeat → Type 0
IsSame old new =
    (new.seat.table_id ≡ old.seat.table_id) × (new.seat.id ≡ old.seat.id) × (new.node ≡ old.node)
    × (new.nodes ≡ old.nodes) × ((known new).opening ≡ (known old).opening)

-- its mailbox to a node, and its mailbox from a node
abbrev pub outbox : NodeSeat → ℕ → ℕ
outbox s to = s.node * s.nodes + to

abbrev pub inbox : NodeSeat → ℕ → ℕ
inbox s from = from * s.nodes + s.node

-- ---- What a call gives a seat

abbrev pub claim_to : Claim → ℕ
claim_to c = c.to

abbrev pub IsClaimOf : NodeSeat → Claim → Type 0
IsClaimOf s c = (c.of.value.table_id ≡ s.seat.table_id) × (c.of.value.id ≡ s.seat.id)

abbrev pub taken_from : Taken → ℕ
taken_from t = t.from

abbrev pub IsTakenOf : NodeSeat → Taken → Type 0
IsTakenOf s t = (t.of.value.table_id ≡ s.seat.table_id) × (t.of.value.id ≡ s.seat.id)

abbrev pub raised_cycle : Raised → ℕ
raised_cycle r = r.cycle.number

-- the world with which the wire was made on whose board the cycle was raised
abbrev pub raised_opening : Raised → World
raised_opening r = r.of.value.me.0.opening

abbrev pub IsRaisedOf : Wire → Raised → Type 0
IsRaisedOf w r =
    (r.of.value.table_id ≡ w.table.shared.table_id) × (raised_opening r ≡ opened_with w)

-- the list of events that the note's seat had learned
abbrev pub note_seen : Note → List Step
note_seen n = n.seat.me.0.seen

abbrev pub IsNoteOf : Wire → Note → Type 0
IsNoteOf w n = n.seat.table_id ≡ w.table.shared.table_id

-- ---- A watch

abbrev pub watch_opening : Watch → World
watch_opening x = x.seat.me.0.opening

abbrev pub IsWatchOf : Wire → Watch → Type 0
IsWatchOf w x =
    (x.seat.table_id ≡ w.table.shared.table_id) × (watch_opening x ≡ opened_with w)

abbrev pub IsSameWatch : Watch → Watch → Type 0
IsSameWatch old new =
    (new.seat.table_id ≡ old.seat.table_id) × (new.seat.id ≡ old.seat.id)
    × (watch_opening new ≡ watch_opening old)

-- the cycle that it loaded last, and the greatest that it heard of
abbrev pub loaded : Watch → ℕ
loaded x = x.seat.me.0.number

-- the cycles that it ever loaded from the board, in order: one for each step on the board
abbrev pub loads_of : Watch → List ℕ
loads_of x = x.seat.me.0.looks

abbrev pub heard : Watch → ℕ
heard x = x.heard.number

-- they belong to the same wire
abbrev pub IsHeardOf : Watch → Raised → Type 0
IsHeardOf x r =
    (r.of.value.table_id ≡ x.seat.table_id) × (raised_opening r ≡ watch_opening x)

-- ---- Making a wire

-- The node shows the state, and everything that it holds is saved: no message waits to be released,
-- and it acknowledges all that it received.
pub record IsSavedAs (n : NodeView) (s : NodeState) : Type 0 where
  pub shows : Shows n s
  pub released : (j : ℕ) → (link_to n j).kept ≡ length (sent_to s j)
  pub acks : n.acks ≡ s.local.got

-- the nodes of a shape, in order, in the states of a world in which everything is saved
pub record AreOpened (shape : Shaped) (nodes : List NodeView) (w : World) : Type 0 where
  pub saved : w.saved ≡ w.current
  pub width : length w.current ≡ shape.nodes
  pub count : length nodes ≡ shape.nodes
  pub each : (k : ℕ) (n : NodeView) → slice_get nodes k ≡ Some n
      → IsSavedAs n (node_at w.current k)

-- a seat of node k, which has done nothing yet
pub record IsSeated (wire : Wire) (k : ℕ) (s : NodeSeat) : Type 0 where
  pub of : IsSeatOf wire s
  pub node : s.node ≡ k
  pub known : s.seat.me.0 ≡ node_of_opening (opened_with wire) k

-- a watch that has seen nothing and heard of nothing
pub record IsFreshWatch (wire : Wire) (x : Watch) : Type 0 where
  pub of : IsWatchOf wire x
  pub known : x.seat.me.0 ≡ watch_of (opened_with wire)
  pub heard : x.heard.number ≡ 0

-- a wire of that world, with a seat for each node and this many watches
pub record IsMade (w : World) (watches : ℕ) (wire : Wire) (seats : List NodeSeat)
    (watching : List Watch) : Type 0 where
  pub opening : opened_with wire ≡ w
  pub nodes : wire.nodes ≡ length w.current
  pub seat_count : length seats ≡ wire.nodes
  pub each_seat : (k : ℕ) (s : NodeSeat) → slice_get seats k ≡ Some s → IsSeated wire k s
  pub watch_count : length watching ≡ watches
  pub each_watch : (k : ℕ) (x : Watch) → slice_get watching k ≡ Some x → IsFreshWatch wire x

-- the dealer of the wire, with the first node that has no seat yet
abbrev pub IsDealer : Wire → ℕ → Seat (Vec ℕ Global) View → Type 0
IsDealer wire k dealer =
    (dealer.table_id ≡ wire.table.shared.table_id)
    × (dealer.me.0 ≡ dealer_of (opened_with wire) k)
