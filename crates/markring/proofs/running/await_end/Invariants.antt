use Rattle.std.specs.Arc.{arc_value}
use Rattle.wire.specs.Readers.{IsWatchOf}
use Rattle.markring.proofs.running.await_end.Given as goal

abbrev pub invariant-loop : goal.invariant-loop
invariant-loop g l =
    (goal.iterator-loop g).can_next l.iterator' × (goal.iterator-loop g).is_finite l.iterator'
    × IsWatchOf (arc_value l.space.wire) l.watch
