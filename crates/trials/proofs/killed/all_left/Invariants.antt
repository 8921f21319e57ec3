use Rattle.std.proofs.Common.{◌≡◌, length}
use Rattle.disk.specs.Memory.{held_by, left_by}
use Rattle.cell.specs.Cells.{HoldsEither, IsSound}
use Rattle.cell.specs.Opened.{AreBeside}
use Rattle.trials.proofs.killed.all_left.Given as goal

abbrev pub invariant-loop-place : goal.invariant-loop-place
invariant-loop-place l = record {
  count : length l.disks.items ≡ l.place;
  each : AreBeside (λ k c d. IsSound left_by c × HoldsEither c (held_by d)) l.cells
      l.disks.items;
}
