use Rattle.std.proofs.Common.{◌≡◌, ◌∙◌, Some, sym, Err, ap, inr, refl}
use Rattle.std.proofs.lemmas.Result.{err_from_is_err_and}
use Rattle.std.proofs.lemmas.Bool.{false≢true}
use Rattle.disk.specs.Areas.{part}
use Rattle.disk_shelf.specs.Shelf.{half, recorded}
use Rattle.disk.proofs.Causes.{err_cause, later_cause}
use Rattle.disk_shelf.proofs.Quiet.{bad_no_disk, both_unmoved, handed_cause}
use Rattle.disk.proofs.Causes.{no_cause}
use Rattle.disk_shelf.proofs.Quiet.{ok_no_err}
use Rattle.disk_shelf.proofs.Records.{recorded_tells}
use Rattle.disk_shelf.proofs.Sides.{unselected}
use Rattle.disk_shelf.proofs.held.recall_image.Goals as goal

pub returns-clause-tells : goal.returns-clause-tells
returns-clause-tells g c =
    let in_b = c.in-Some.in_b in
    let held = part (half in_b) (g.D.Disk.seen c.args.disk.now) in
    let image = c.in_ok-image.image.items in
    let is : recorded held ≡ Some image =
    cc (c.in_ok-image.ensures.image, c.half.ensures, c.synced_side.ensures.quiet.same) in
    (in_b, c.in_ok-side.ensures.side ∙ c.in-Some.is, recorded_tells held image is)

pub returns-in_err-image-clause-quiet : goal.returns-in_err-image-clause-quiet
returns-in_err-image-clause-quiet g c =
    both_unmoved c.synced_side.ensures.quiet c.load.ensures.quiet

pub returns-clause-quiet : goal.returns-clause-quiet
returns-clause-quiet g c =
    both_unmoved c.synced_side.ensures.quiet c.load.ensures.quiet

pub returns-clause-durable : goal.returns-clause-durable
returns-clause-durable g c x left =
    c.in_ok-side.ensures.durable x (c.load.ensures.quiet.crash x left)
    ∙ sym c.load.ensures.quiet.same

pub returns-in_err-side-clause-cause : goal.returns-in_err-side-clause-cause
returns-in_err-side-clause-cause g c =
    let p = err_from_is_err_and c.from_residual.result c.from_residual.ensures.1 in
    err_cause c.in_err-side.ensures.cause (p.1 ∙ ap Err p.2)

pub returns-in_err-side-clause-others : goal.returns-in_err-side-clause-others
returns-in_err-side-clause-others g c =
    let p = err_from_is_err_and c.from_residual.result c.from_residual.ensures.1 in
    rw p.1 (inr (inr p.2))

pub returns-in_err-image-clause-cause : goal.returns-in_err-image-clause-cause
returns-in_err-image-clause-cause g c =
    let exit = c.from_residual-in_err-image in
    let p = err_from_is_err_and exit.result exit.ensures.1 in
    later_cause (c.in_ok-side.ensures.cause.fine false≢true)
    (handed_cause (p.1 ∙ ap Err p.2) c.in_err-image.ensures.cause)

pub returns-in_err-image-clause-others : goal.returns-in_err-image-clause-others
returns-in_err-image-clause-others g c =
    let exit = c.from_residual-in_err-image in
    let p = err_from_is_err_and exit.result exit.ensures.1 in
    rw (p.1, p.2) c.in_err-image.ensures.others

pub returns-clause-cause : goal.returns-clause-cause
returns-clause-cause g c =
    later_cause (c.in_ok-side.ensures.cause.fine false≢true)
    (no_cause (c.in_ok-image.ensures.cause.fine ok_no_err) ok_no_err)

pub returns-in_default-clause-bad : goal.returns-in_default-clause-bad
returns-in_default-clause-bad g c _ =
    unselected (g.D.Disk.seen c.args.disk.now) (c.in_ok-side.ensures.side ∙ c.in_default.is)

pub returns-in_default-clause-cause : goal.returns-in_default-clause-cause
returns-in_default-clause-cause g c =
    no_cause (c.in_ok-side.ensures.cause.fine false≢true) (bad_no_disk refl)
