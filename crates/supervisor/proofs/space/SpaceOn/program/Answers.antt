use Rattle.std.specs.Arc.{arc_value}
use Rattle.supervisor.proofs.Seats.{found-in}
use Rattle.supervisor.proofs.space.SpaceOn.program.Goals as goal

pub returns-in-Some-clause-cell : goal.returns-in-Some-clause-cell
returns-in-Some-clause-cell g c =
    let found = c.in-Some.ensures.lookup in
    found-in arc_value c.deref.ensures.value c.from.ensures found.3.0 found.1
    c.deref-in-Some.ensures
