use Rattle.std.proofs.Common.{◌∙◌, Some, ap, inl, inr, refl}
use Rattle.std.proofs.lemmas.Bool.{false≢true}
use Rattle.std.proofs.lemmas.Result.{err_from_is_err_and}
use Rattle.disk.specs.Areas.{part}
use Rattle.disk.proofs.Causes.{err_cause, later_cause, no_cause}
use Rattle.disk_shelf.proofs.Logs.{next_here, no_batch, no_gate}
use Rattle.disk_shelf.proofs.Quiet.{bad_no_disk, both_unmoved, disk_no_bad, handed_cause, handed_err, memory_no_bad, memory_no_disk, ok_no_err}
use Rattle.disk_shelf.proofs.log.next_batch.Goals as goal

pub returns-in_err-gate : goal.returns-in_err-gate
returns-in_err-gate g c =
    let p = err_from_is_err_and c.from_residual.result c.from_residual.ensures.1 in
    rw (p.1, p.2) (record {
      batch = tt;
      bad = λ is. absurd (disk_no_bad is);
      quiet = c.parity.ensures.quiet;
      cause = err_cause c.in_err-gate.ensures.cause refl;
      others = inr (inr refl);
    })

pub returns-in_default : goal.returns-in_default
returns-in_default g c = record {
  batch = tt;
  bad = λ _ batches log. no_gate batches _ (c.in_ok-gate.ensures.side ∙ c.in_default.is) log;
  quiet = c.parity.ensures.quiet;
  cause = no_cause (c.in_ok-gate.ensures.cause.fine false≢true) (bad_no_disk refl);
  others = inr (inl refl);
}

pub returns-then-not-is_open : goal.returns-then-not-is_open
returns-then-not-is_open g c = record {
  batch = c.in_ok-gate.ensures.side ∙ c.in-Some.is ∙ ap Some c.if-not-is_open.true;
  bad = λ is. absurd (ok_no_err is);
  quiet = c.parity.ensures.quiet;
  cause = no_cause (c.in_ok-gate.ensures.cause.fine false≢true) ok_no_err;
  others = tt;
}

pub returns-in_default-checked_add : goal.returns-in_default-checked_add
returns-in_default-checked_add g c = record {
  batch = tt;
  bad = λ is. absurd (memory_no_bad is);
  quiet = c.parity.ensures.quiet;
  cause = no_cause (c.in_ok-gate.ensures.cause.fine false≢true) memory_no_disk;
  others = inl refl;
}

pub returns-in_err-batch : goal.returns-in_err-batch
returns-in_err-batch g c =
    let exit = c.from_residual-in_err-batch in
    let p = err_from_is_err_and exit.result exit.ensures.1 in
    rw (p.1, p.2) (record {
      batch = tt;
      bad = λ bad batches log. no_batch batches _
          (c.in_ok-gate.ensures.side ∙ c.in-Some.is ∙ ap Some c.if-not-is_open.false)
          (next_here c.args.at c.in-Some-checked_add.ensures.1
          (ap (part c.args.area) c.parity.ensures.quiet.same)
          (c.in_err-batch.ensures.none (handed_err refl bad))) log;
      quiet = both_unmoved c.parity.ensures.quiet c.load.ensures.quiet;
      cause = later_cause (c.in_ok-gate.ensures.cause.fine false≢true)
          (handed_cause refl c.in_err-batch.ensures.cause);
      others = c.in_err-batch.ensures.others;
    })

pub returns : goal.returns
returns g c = record {
  batch = (
    c.in_ok-gate.ensures.side ∙ c.in-Some.is ∙ ap Some c.if-not-is_open.false,
    next_here c.args.at c.in-Some-checked_add.ensures.1
        (ap (part c.args.area) c.parity.ensures.quiet.same) c.in_ok-batch.ensures.image,
  );
  bad = λ is. absurd (ok_no_err is);
  quiet = both_unmoved c.parity.ensures.quiet c.load.ensures.quiet;
  cause = later_cause (c.in_ok-gate.ensures.cause.fine false≢true)
      (no_cause (c.in_ok-batch.ensures.cause.fine ok_no_err) ok_no_err);
  others = tt;
}
