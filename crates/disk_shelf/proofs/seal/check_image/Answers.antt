use Rattle.std.proofs.Common.{◌≡◌, ◌∙◌, ap, arith, length, sym}
use Rattle.disk.specs.Areas.{part}
use Rattle.disk_shelf.proofs.Checks.{seal_inside}
use Rattle.disk_shelf.proofs.Quiet.{same_some}
use Rattle.disk_shelf.proofs.seal.check_image.Goals as goal

pub returns-then-not-branch-clause-bad : goal.returns-then-not-branch-clause-bad
returns-then-not-branch-clause-bad g c bad sealed =
    let held = part c.args.area (g.D.Disk.seen c.args.disk.now) in
    let image = c.in_ok-image.image in
    let same : sealed.image ≡ image.items =
    same_some (sym sealed.holds ∙ c.in_ok-image.ensures.image) in
    let short = c.in_ok-read_whole.ensures.whole.short c.if-not-branch.true in
    absurd (omega (
      arith,
      seal_inside held sealed,
      ap length same,
      short,
      ap (λ d. length (part c.args.area d)) c.load.ensures.quiet.same,
      c.len.ensures ∙ image.ok.0,
    ))
