use Rattle.std.proofs.Common.{◌≡◌, length}
use Rattle.cell.specs.Looking.{AreLookedAt, AreUnmoved, logs_at}
use Rattle.cell.specs.Opened.{AreBeside, IsChosen}
use Rattle.cell.proofs.Looking.{AreIntactTo}
use Rattle.cell.proofs.finding.look_at_all.Given as goal

abbrev pub invariant-loop-number : goal.invariant-loop-number
invariant-loop-number g l = record {
  quiet : AreUnmoved g.D.Disk.seen g.D.Disk.may_leave g.D.Disk.moment g.D.Disk.left_since
      l.fn.disks l.disks;
  looked : AreLookedAt g.D.Disk.seen g.D.Disk.may_leave g.D.Disk.faults l.shape l.number
      l.fn.disks l.disks l.nodes.items l.areas.items;
  count : length l.disks ≡ l.shape.nodes;
  chosen : AreBeside (λ k d place. IsChosen l.saves (g.D.Disk.seen d) (logs_at l.saves place))
      l.fn.disks l.areas.items;
  intact : AreIntactTo g.D.Disk.seen g.D.Disk.seals l.number l.fn.disks;
}
