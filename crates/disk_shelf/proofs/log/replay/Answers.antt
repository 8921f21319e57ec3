use Rattle.std.proofs.Common.{◌≡◌, ◌∙◌, Some, None, arith, drop, inl, length, refl, subst, sym}
use Rattle.std.proofs.lemmas.Result.{err_from_is_err_and}
use Rattle.disk.specs.Areas.{part}
use Rattle.disk.proofs.Causes.{later_cause, no_cause}
use Rattle.disk_shelf.specs.Logs.{HasLog, IsNext}
use Rattle.disk_shelf.proofs.Logs.{read_all}
use Rattle.disk_shelf.proofs.Quiet.{bad_no_memory, both_unmoved, handed_cause, handed_err, memory_no_bad, memory_no_disk, ok_no_err, read_no_disk, read_refused, same_err}
use Rattle.disk_shelf.proofs.Values.{fresh_led, next_led, performed_more}
use Rattle.disk_shelf.proofs.log.replay.Given as given
use Rattle.disk_shelf.proofs.log.replay.Goals as goal
use Rattle.disk_shelf.proofs.log.replay.Goals.{In-Some}

-- the batch that was found is the next one of the disk as it was
found : (g : given.Over) (c : In-Some g) →
    IsNext (drop c.loop-batch.end (part c.args.area (g.D.Disk.seen c.args.disk.now)))
    (Some c.in-Some.batch)
found g c =
    let now = c.loop-batch in
    subst (λ d. IsNext (drop now.end (part c.args.area d)) (Some c.in-Some.batch))
    now.invariant.1.same
    (subst (IsNext (drop now.end (part c.args.area (g.D.Disk.seen now.disk)))) c.in-Some.is
    c.in_ok-batch.ensures.batch)

pub redo-requires : goal.redo-requires
redo-requires g c =
    let now = c.loop-batch in
    fresh_led g.P.Persist.leads g.P.Persist.fresh g.met.P.Persist.led_fresh now.invariant.0.batches
    c.args.value.now now.value c.requires now.invariant.0.led

pub returns-in_err-batch : goal.returns-in_err-batch
returns-in_err-batch g c =
    let p = err_from_is_err_and c.from_residual.result c.from_residual.ensures.1 in
    let now = c.loop-batch in
    rw (p.1, p.2) (record {
      led = tt;
      bad = λ is all last log led.
          let left = now.invariant.0.read.back all log in
          c.in_err-batch.ensures.bad (handed_err refl is) left.0
          (subst (λ d. HasLog left.0 (drop now.end (part c.args.area d)))
          (sym now.invariant.1.same) left.1);
      quiet = both_unmoved now.invariant.1 c.next_batch.ensures.quiet;
      cause = later_cause now.invariant.2 (handed_cause refl c.in_err-batch.ensures.cause);
      others = c.in_err-batch.ensures.others;
    })

pub returns-in_default-checked_add : goal.returns-in_default-checked_add
returns-in_default-checked_add g c =
    let now = c.loop-batch in
    record {
      led = tt;
      bad = λ is. absurd (memory_no_bad is);
      quiet = both_unmoved now.invariant.1 c.next_batch.ensures.quiet;
      cause = no_cause (c.in_ok-batch.ensures.cause.fine ok_no_err ∙ now.invariant.2)
          memory_no_disk;
      others = inl refl;
    }

pub returns-in_err-redo : goal.returns-in_err-redo
returns-in_err-redo g c =
    let exit = c.from_residual-in_err-redo in
    let p = err_from_is_err_and exit.result exit.ensures.1 in
    let now = c.loop-batch in
    let batch = c.in-Some.batch in
    let next = found g (goal.at.returns-in_err-redo g c).In-Some in
    let refused = c.in_err-redo.ensures.refused in
    rw (p.1, p.2) (record {
      led = tt;
      bad = λ bad all last log led.
          let led_on = next_led g.met.P.Persist.one_end now.invariant.0 batch next all last log
          led in
          (refused (bad_no_memory (same_err bad))).1 led_on.0
          (subst (λ l. g.P.Persist.leads l now.value led_on.0) (sym c.deref.ensures.value)
          led_on.1);
      quiet = both_unmoved now.invariant.1 c.next_batch.ensures.quiet;
      cause = no_cause (c.in_ok-batch.ensures.cause.fine ok_no_err ∙ now.invariant.2)
          (read_no_disk refused);
      others = read_refused _ refused;
    })

pub loop-batch-preserved : goal.loop-batch-preserved
loop-batch-preserved g c =
    let now = c.loop-batch in
    let batch = c.in-Some.batch in
    let next = found g (goal.at.loop-batch-preserved g c).In-Some in
    let count : c.len.result ≡ length batch.items = c.len.ensures ∙ batch.ok.0 in
    let led = subst (λ l. g.P.Persist.leads l now.value c.redo.new.value) c.deref.ensures.value
    c.in_ok-redo.ensures.led in (
      performed_more now.invariant.0 batch next led
          (omega (arith, c.in-Some-checked_add.ensures.1, count)),
      both_unmoved now.invariant.1 c.next_batch.ensures.quiet,
      c.in_ok-batch.ensures.cause.fine ok_no_err ∙ now.invariant.2,
    )

pub returns : goal.returns
returns g c =
    let seen = g.D.Disk.seen in
    let now = c.loop-batch in
    let held = part c.args.area (seen c.args.disk.now) in
    let next : IsNext (drop now.end held) None =
    subst (λ d. IsNext (drop now.end (part c.args.area d)) None) now.invariant.1.same
    (subst (IsNext (drop now.end (part c.args.area (seen now.disk)))) c.in_default.is
    c.in_ok-batch.ensures.batch) in
    record {
      led = (
        now.invariant.0.batches,
        record {
          log = read_all now.invariant.0.read next;
          offset = now.invariant.0.read.reached;
          led = now.invariant.0.led;
        },
      );
      bad = λ is. absurd (ok_no_err is);
      quiet = both_unmoved now.invariant.1 c.next_batch.ensures.quiet;
      cause = no_cause (c.in_ok-batch.ensures.cause.fine ok_no_err ∙ now.invariant.2) ok_no_err;
      others = tt;
    }
