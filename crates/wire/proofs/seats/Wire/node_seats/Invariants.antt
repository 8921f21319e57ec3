use Rattle.std.proofs.Common.{◌≡◌, ◌≤◌, ℕ, length, vec_capacity, Some, slice_get}
use Rattle.wire.specs.declared.seats.NodeSeat.{NodeSeat}
use Rattle.wire.specs.Readers.{IsDealer, IsSeated}
use Rattle.wire.proofs.seats.Wire.node_seats.Given as goal

abbrev pub invariant-loop-node : goal.invariant-loop-node
invariant-loop-node l =
    (length l.seats.items ≡ l.node) × (l.self.nodes ≤ vec_capacity l.seats)
    × IsDealer l.self l.node l.dealer
    × ((k : ℕ) (s : NodeSeat) → slice_get l.seats.items k ≡ Some s → IsSeated l.self k s)
