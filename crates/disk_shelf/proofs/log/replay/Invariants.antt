use Rattle.std.proofs.Common.{◌≡◌, ◌-◌, length}
use Rattle.disk.specs.Areas.{part}
use Rattle.disk.specs.Crashes.{Unmoved}
use Rattle.disk_shelf.proofs.Values.{Performed}
use Rattle.disk_shelf.proofs.log.replay.Given as goal

abbrev pub invariant-loop-batch : goal.invariant-loop-batch
invariant-loop-batch g l =
    Performed g.P.Persist.leads l.at l.end (part l.area (g.D.Disk.seen l.fn.disk)) l.fn.value
    l.value
    × Unmoved g.D.Disk.seen g.D.Disk.may_leave g.D.Disk.moment g.D.Disk.left_since l.fn.disk l.disk
    × (g.D.Disk.faults l.disk ≡ g.D.Disk.faults l.fn.disk)

-- how many bytes are left
abbrev pub decreases-loop-batch : goal.decreases-loop-batch
decreases-loop-batch g l = length (part l.area (g.D.Disk.seen l.disk)) - l.end
