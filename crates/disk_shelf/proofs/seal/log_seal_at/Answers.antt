use Rattle.std.proofs.Common.{arith, drop, length-drop}
use Rattle.disk.specs.Areas.{part}
use Rattle.disk_shelf.proofs.Checks.{taken_inside}
use Rattle.disk_shelf.proofs.seal.log_seal_at.Goals as goal

pub returns-then-not-branch-clause-seal : goal.returns-then-not-branch-clause-seal
returns-then-not-branch-clause-seal g c seal =
    let held = part c.args.area (g.D.Disk.seen c.args.disk.now) in
    let inside = taken_inside 64 (drop c.args.at held) seal.long in
    let short = c.in_ok-read_whole.ensures.whole.short c.if-not-branch.true in
    absurd (omega (arith, inside, short, length-drop c.args.at held))
