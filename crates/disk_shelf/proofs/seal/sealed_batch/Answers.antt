use Rattle.std.proofs.Common.{◌∙◌, Some, ap, refl}
use Rattle.std.proofs.lemmas.Result.{err_from_is_err_and}
use Rattle.disk.specs.Areas.{part}
use Rattle.disk_shelf.proofs.Checks.{no_sealed_batch}
use Rattle.disk_shelf.proofs.Logs.{next_here}
use Rattle.disk_shelf.proofs.Quiet.{handed_err}
use Rattle.disk_shelf.proofs.seal.sealed_batch.Goals as goal

pub returns-in_err-batch-clause-bad : goal.returns-in_err-batch-clause-bad
returns-in_err-batch-clause-bad g c =
    let exit = c.from_residual-in_err-batch in
    let p = err_from_is_err_and exit.result exit.ensures.1 in
    rw (p.1, p.2) (λ bad digest. no_sealed_batch digest _
    (c.in_ok-gate.ensures.byte ∙ c.in-Some.is ∙ ap Some c.if-gate.false)
    (next_here c.args.at c.in-Some-checked_add.ensures.1
    (ap (part c.args.area) c.byte_at.ensures.quiet.same)
    (c.in_err-batch.ensures.none (handed_err refl bad))))

pub returns-clause-batch : goal.returns-clause-batch
returns-clause-batch g c = (
  c.in_ok-gate.ensures.byte ∙ c.in-Some.is ∙ ap Some c.if-gate.false,
  next_here c.args.at c.in-Some-checked_add.ensures.1
      (ap (part c.args.area) c.byte_at.ensures.quiet.same) c.in_ok-batch.ensures.image,
)
