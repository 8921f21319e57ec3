use Rattle.std.proofs.Common.{◌<◌}
use Rattle.cell.specs.Moments.{EachCell}
use Rattle.supervisor.specs.Closing.{IsRow}
use Rattle.supervisor.proofs.closing.first_other.Given as goal

abbrev pub invariant-loop-place : goal.invariant-loop-place
invariant-loop-place g l = EachCell (λ k c. k < l.place → IsRow k c) l.cells
