use Rattle.std.proofs.Common.{◌≡◌, true}
use Rattle.wire.specs.Lists.{has}
use Rattle.wire.proofs.Sitting.{before}
use Rattle.wire.proofs.seats.NodeSeat.bring.Given as goal

abbrev pub invariant-loop-self : goal.invariant-loop-self
invariant-loop-self l =
    (has l.at l.self.held.items ≡ true) × (l.self.seat.table_id ≡ l.initial.self.seat.table_id)
    × (l.self.seat.id ≡ l.initial.self.seat.id) × (l.self.node ≡ l.initial.self.node)
    × (l.self.nodes ≡ l.initial.self.nodes) × (l.self.seat.me.0 ≡ l.initial.self.seat.me.0)

abbrev pub decreases-loop-self : goal.decreases-loop-self
decreases-loop-self l = before l.at l.self.held.items
