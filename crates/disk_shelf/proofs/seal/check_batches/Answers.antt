use Rattle.std.proofs.Common.{◌≡◌, ◌∙◌, ap, None, Some, arith, drop, inl, length, refl, subst, sym}
use Rattle.std.proofs.lemmas.Result.{err_from_is_err_and, on_ok_weaker}
use Rattle.disk.specs.Areas.{part}
use Rattle.disk.proofs.Causes.{later_cause, no_cause}
use Rattle.disk_shelf.specs.Seals.{IsSealedBatch, link, SomeSealed}
use Rattle.disk_shelf.proofs.Checks.{compared_more}
use Rattle.disk_shelf.proofs.Moments.{started}
use Rattle.disk_shelf.proofs.Quiet.{both_unmoved, handed_cause, handed_err, memory_no_bad, memory_no_disk, ok_no_err}
use Rattle.disk_shelf.proofs.seal.check_batches.Given as given
use Rattle.disk_shelf.proofs.seal.check_batches.Goals as goal
use Rattle.disk_shelf.proofs.seal.check_batches.Goals.{In-Some}

-- the batch that was found is the next one of the disk as it was
found : (g : given.Over) (c : In-Some g) →
    IsSealedBatch (drop c.loop-batch.at (part c.args.area (g.D.Disk.seen c.args.disk.now)))
    (Some c.in-Some.batch)
found g c =
    let now = c.loop-batch in
    subst (λ d. IsSealedBatch (drop now.at (part c.args.area d)) (Some c.in-Some.batch))
    now.invariant.1.same
    (subst (IsSealedBatch (drop now.at (part c.args.area (g.D.Disk.seen now.disk)))) c.in-Some.is
    c.in_ok-batch.ensures.batch)

pub returns-in_err-batch : goal.returns-in_err-batch
returns-in_err-batch g c =
    let p = err_from_is_err_and c.from_residual.result c.from_residual.ensures.1 in
    let now = c.loop-batch in
    rw (p.1, p.2) (record {
      sealed = tt;
      bad = λ is sealed. c.in_err-batch.ensures.bad (handed_err refl is) now.digest
          (subst (λ d. SomeSealed now.digest (drop now.at (part c.args.area d)))
          (sym now.invariant.1.same) (now.invariant.0.back sealed));
      quiet = both_unmoved now.invariant.1 c.sealed_batch.ensures.quiet;
      cause = later_cause now.invariant.2 (handed_cause refl c.in_err-batch.ensures.cause);
      others = c.in_err-batch.ensures.others;
    })

pub returns-in_default-checked_add : goal.returns-in_default-checked_add
returns-in_default-checked_add g c =
    let now = c.loop-batch in
    record {
      sealed = tt;
      bad = λ is. absurd (memory_no_bad is);
      quiet = both_unmoved now.invariant.1 c.sealed_batch.ensures.quiet;
      cause = no_cause (c.in_ok-batch.ensures.cause.fine ok_no_err ∙ now.invariant.2)
          memory_no_disk;
      others = inl refl;
    }

pub loop-batch-preserved : goal.loop-batch-preserved
loop-batch-preserved g c =
    let now = c.loop-batch in
    let batch = c.in-Some.batch in
    let next = found g (goal.at.loop-batch-preserved g c).In-Some in
    let count : c.len.result ≡ length batch.items = c.len.ensures ∙ batch.ok.0 in (
      compared_more now.invariant.0 next.0 next.1
          (omega (arith, c.in-Some-checked_add.ensures.1, count))
          (c.next_digest-digest.ensures ∙ ap (link now.digest) c.deref.ensures.value),
      both_unmoved now.invariant.1 c.sealed_batch.ensures.quiet,
      c.in_ok-batch.ensures.cause.fine ok_no_err ∙ now.invariant.2,
    )

pub loop-batch-init : goal.loop-batch-init
loop-batch-init g c = (
  record { forth = λ s. s; back = λ s. s },
  record {
    same = refl;
    crash = λ x left. left;
    any_moment = started (λ x left. g.met.D.Disk.only_now c.args.disk.now x left);
  },
  refl,
)

pub check_gate-requires : goal.check_gate-requires
check_gate-requires g c =
    let now = c.loop-batch in
    subst (λ d. IsSealedBatch (drop now.at (part c.args.area d)) None)
    (sym c.sealed_batch.ensures.quiet.same)
    (subst (IsSealedBatch (drop now.at (part c.args.area (g.D.Disk.seen now.disk))))
    c.in_default.is c.in_ok-batch.ensures.batch)

pub returns : goal.returns
returns g c =
    let now = c.loop-batch in
    let same = c.sealed_batch.ensures.quiet.same ∙ now.invariant.1.same in
    let said = c.check_gate.ensures in
    record {
      sealed = on_ok_weaker c.check_gate.result (λ s. now.invariant.0.forth
          (subst (λ d. SomeSealed now.digest (drop now.at (part c.args.area d))) same s))
          said.sealed;
      bad = λ is sealed. said.bad is
          (subst (λ d. SomeSealed now.digest (drop now.at (part c.args.area d))) (sym same)
          (now.invariant.0.back sealed));
      quiet = both_unmoved now.invariant.1
          (both_unmoved c.sealed_batch.ensures.quiet c.check_gate.ensures.quiet);
      cause = later_cause (c.in_ok-batch.ensures.cause.fine ok_no_err ∙ now.invariant.2) said.cause;
      others = said.others;
    }
