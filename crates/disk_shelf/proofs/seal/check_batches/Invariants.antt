use Rattle.std.proofs.Common.{◌≡◌, ◌-◌, length}
use Rattle.disk.specs.Areas.{part}
use Rattle.disk.specs.Crashes.{Unmoved}
use Rattle.disk_shelf.proofs.Checks.{Compared}
use Rattle.disk_shelf.proofs.seal.check_batches.Given as goal

abbrev pub invariant-loop-batch : goal.invariant-loop-batch
invariant-loop-batch g l =
    Compared l.start l.at l.fn.first l.digest (part l.area (g.D.Disk.seen l.fn.disk))
    × Unmoved g.D.Disk.seen g.D.Disk.may_leave g.D.Disk.moment g.D.Disk.left_since l.fn.disk l.disk
    × (g.D.Disk.faults l.disk ≡ g.D.Disk.faults l.fn.disk)

-- how many bytes are left
abbrev pub decreases-loop-batch : goal.decreases-loop-batch
decreases-loop-batch g l = length (part l.area (g.D.Disk.seen l.disk)) - l.at
