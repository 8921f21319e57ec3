use Rattle.std.proofs.Common.{◌≡◌, ◌∙◌, Bool, true, false, refl, sym}
use Rattle.std.proofs.lemmas.Bool.{false≢true}
use Rattle.std.proofs.lemmas.Result.{err_from_is_err_and}
use Rattle.disk.proofs.Causes.{no_cause}
use Rattle.disk_shelf.proofs.Quiet.{handed_cause, ok_no_err}
use Rattle.disk_journal.proofs.Values.{kept_less, none_less}
use Rattle.disk_journal.proofs.journal.Journal.reopen.Goals as goal

pub returns-in_err-tail : goal.returns-in_err-tail
returns-in_err-tail g c =
    let p = err_from_is_err_and c.from_residual.result c.from_residual.ensures.1 in
    let said = c.in_err-tail.ensures in
    rw (p.1, p.2) (record {
      opened = tt;
      ready = tt;
      shut = λ _. refl;
      logs = refl;
      refused = said.refused;
      read = record {
        quiet = c.read_logged.ensures.quiet;
        cause = handed_cause refl said.cause;
      };
    })

pub returns : goal.returns
returns g c =
    let was = c.args.self.now in
    let said = c.in_ok-tail.ensures in
    record {
      opened = said.value;
      ready = refl;
      shut = λ is. absurd (false≢true is);
      logs = c.renewed-self.ensures.logs ∙ by was.tail.logs refl;
      refused = tt;
      read = record {
        quiet = c.read_logged.ensures.quiet;
        cause = no_cause (said.cause.fine ok_no_err) ok_no_err;
      };
    }
  where
    by : (b : Bool) → c.args.self.now.tail.logs ≡ b → c.in_ok-tail.tail.logs ≡ b
    by true is = c.in_ok-tail.ensures.logs is
    by false is = c.in_ok-tail.ensures.plain is
        ((c.args.self.now.plain is).1 (g.D.Disk.seen c.args.self.now.disk)
        (g.met.D.Disk.reads_left c.args.self.now.disk))

pub invariant_of-self : goal.invariant_of-self
invariant_of-self g c = record {
  kept = λ ready. absurd cc;
  plain = λ plain.
      let was = c.args.self.now.plain plain in
      (was.0, λ x left. was.1 x (c.read_logged.ensures.quiet.crash x left));
}

pub invariant_of-self-2 : goal.invariant_of-self-2
invariant_of-self-2 g c =
    let lies = c.in_ok-tail.ensures.lies in
    let renewed = c.renewed-self.ensures in
    record {
      kept = λ _. kept_less lies.kept renewed.side renewed.end;
      plain = λ plain.
          let at = lies.plain (sym renewed.logs ∙ plain) in
          (none_less at.0 renewed.end, at.1);
    }
