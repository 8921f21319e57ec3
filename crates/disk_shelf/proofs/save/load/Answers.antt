use Rattle.std.proofs.Common.{ap, arith, drop, length, inl, inr, refl}
use Rattle.std.proofs.lemmas.Result.{err_from_is_err_and}
use Rattle.std.proofs.lemmas.Bool.{false≢true}
use Rattle.disk.specs.Areas.{part}
use Rattle.disk.proofs.Causes.{err_cause, later_cause, no_cause}
use Rattle.disk_shelf.proofs.Quiet.{bad_no_disk, bad_no_memory, both_unmoved, disk_no_bad, disk_no_memory, handed_cause, handed_err, memory_no_bad, memory_no_disk, ok_no_err, same_err}
use Rattle.disk_shelf.proofs.Records.{recorded_cut, image_read, whole_behind}
use Rattle.disk_shelf.proofs.save.load.Goals as goal

pub returns-in_err-len : goal.returns-in_err-len
returns-in_err-len g c =
    let p = err_from_is_err_and c.from_residual.result c.from_residual.ensures.1 in
    let said = c.in_err-len.ensures in
    rw (p.1, p.2) (record {
      image = tt;
      none = λ is. said.none (handed_err refl is);
      memory = λ is below. absurd (omega (arith, below, said.far (handed_err refl is)));
      quiet = c.told_length.ensures.quiet;
      cause = handed_cause refl said.cause;
      others = said.others;
    })

pub returns-in_err-image : goal.returns-in_err-image
returns-in_err-image g c =
    let exit = c.from_residual-in_err-image in
    let p = err_from_is_err_and exit.result exit.ensures.1 in
    rw (p.1, p.2) (record {
      image = tt;
      none = λ is. absurd (memory_no_bad is);
      memory = λ _ _. c.in_ok-len.ensures.tells;
      quiet = c.told_length.ensures.quiet;
      cause = no_cause (c.in_ok-len.ensures.cause.fine ok_no_err) memory_no_disk;
      others = inl refl;
    })

pub returns-in_default : goal.returns-in_default
returns-in_default g c = record {
  image = tt;
  none = λ is. absurd (memory_no_bad is);
  memory = λ _ _. c.in_ok-len.ensures.tells;
  quiet = c.told_length.ensures.quiet;
  cause = no_cause (c.in_ok-len.ensures.cause.fine ok_no_err) memory_no_disk;
  others = inl refl;
}

pub returns-in_err-read_whole : goal.returns-in_err-read_whole
returns-in_err-read_whole g c =
    let exit = c.from_residual-in_err-read_whole in
    let p = err_from_is_err_and exit.result exit.ensures.1 in
    rw (p.1, p.2) (record {
      image = tt;
      none = λ is. absurd (disk_no_bad is);
      memory = λ is. absurd (disk_no_memory is);
      quiet = both_unmoved c.told_length.ensures.quiet c.read_whole.ensures.quiet;
      cause = later_cause (c.in_ok-len.ensures.cause.fine ok_no_err)
          (err_cause c.in_err-read_whole.ensures.cause refl);
      others = inr (inr refl);
    })

pub returns-then-not-branch : goal.returns-then-not-branch
returns-then-not-branch g c =
    let whole = whole_behind c.args.at 8 c.in-Some.from c.in-Some.ensures.1 (omega arith)
    c.in_ok-read_whole.ensures.whole in
    record {
      image = tt;
      none = λ _. recorded_cut _ (omega (
        arith,
        whole.short c.if-not-branch.true,
        ap (λ d. length (drop c.args.at (part c.args.area d)))
            c.told_length.ensures.quiet.same,
        c.in_ok-len.ensures.told,
        c.in_ok-image.ensures.len,
        c.deref_mut.ensures.len,
      ));
      memory = λ is. absurd (bad_no_memory refl (same_err is));
      quiet = both_unmoved c.told_length.ensures.quiet c.read_whole.ensures.quiet;
      cause = later_cause (c.in_ok-len.ensures.cause.fine ok_no_err)
          (no_cause (c.in_ok-read_whole.ensures.cause.fine false≢true) (bad_no_disk refl));
      others = inr (inl refl);
    }

pub returns : goal.returns
returns g c =
    let whole = whole_behind c.args.at 8 c.in-Some.from c.in-Some.ensures.1 (omega arith)
    c.in_ok-read_whole.ensures.whole in
    record {
      image = image_read _ c.in_ok-image.image.len whole c.if-not-branch.false
          c.deref_mut.ensures.len
          (ap (λ d. drop c.args.at (part c.args.area d)) c.told_length.ensures.quiet.same)
          (omega (arith, c.in_ok-len.ensures.told, c.in_ok-image.ensures.len))
          c.in_ok-len.ensures.tells;
      none = λ is. absurd (ok_no_err is);
      memory = λ is. absurd (ok_no_err is);
      quiet = both_unmoved c.told_length.ensures.quiet c.read_whole.ensures.quiet;
      cause = later_cause (c.in_ok-len.ensures.cause.fine ok_no_err)
          (no_cause (c.in_ok-read_whole.ensures.cause.fine false≢true) ok_no_err);
      others = tt;
    }
