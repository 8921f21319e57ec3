use Rattle.std.proofs.Common.{◌≡◌, ◌∙◌, Err, Some, ap, false, is_some, refl, subst, sym}
use Rattle.std.specs.Prelude.{◌||◌}
use Rattle.std.proofs.lemmas.Result.{err_from_is_err_and}
use Rattle.disk.proofs.Causes.{later_cause, no_cause}
use Rattle.disk_shelf.specs.Logs.{IsPlain, Restores}
use Rattle.disk_shelf.specs.Shelf.{opened}
use Rattle.disk_shelf.proofs.Quiet.{both_unmoved, handed_cause, ok_no_err, read_no_disk, same_some, unread_image, unread_none}
use Rattle.disk_journal.proofs.Values.{is_none, neither, plain_only, restores_read, restores_some}
use Rattle.disk_journal.proofs.journal.read_logged.Goals as goal

pub returns-in_err-in_b : goal.returns-in_err-in_b
returns-in_err-in_b g c =
    let p = err_from_is_err_and c.from_residual.result c.from_residual.ensures.1 in
    let said = c.in_err-in_b.ensures in
    rw (p.1, p.2) (record {
      value = tt;
      lies = tt;
      logs = λ _. tt;
      plain = λ _ _. tt;
      refused = unread_none said.bad said.memory said.others (λ v r. restores_some r);
      quiet = c.recall_image.ensures.quiet;
      cause = handed_cause refl said.cause;
    })

pub returns-in_err-value : goal.returns-in_err-value
returns-in_err-value g c =
    let exit = c.from_residual-in_err-value in
    let p = err_from_is_err_and exit.result exit.ensures.1 in
    let image = c.in_ok-in_b.ensures in
    let refused = c.in_err-value.ensures.refused in
    rw (p.1, p.2) (record {
      value = tt;
      lies = tt;
      logs = λ _. tt;
      plain = λ _ _. tt;
      refused = unread_image refused image.tells (λ v r. (
        r.first,
        subst (λ l. g.P.Persist.reads l r.first) (sym c.deref.ensures.value)
            (restores_read r image.image),
      ));
      quiet = c.recall_image.ensures.quiet;
      cause = no_cause (image.cause.fine ok_no_err) (read_no_disk refused);
    })

pub returns-in_err-end : goal.returns-in_err-end
returns-in_err-end g c =
    let exit = c.from_residual-in_err-end in
    let p = err_from_is_err_and exit.result exit.ensures.1 in
    rw (p.1, p.2) (record {
      value = tt;
      lies = tt;
      logs = λ _. tt;
      plain = λ _ _. tt;
      refused = record {
        bad = λ is v restores. c.in_err-end.ensures.bad (ap Err is) v
            (subst (Restores g.P.Persist.logs g.P.Persist.reads g.P.Persist.leads v)
            (sym c.recall_image.ensures.quiet.same) restores);
        memory = λ _. c.in_ok-in_b.ensures.tells;
        others = c.in_err-end.ensures.others;
      };
      quiet = both_unmoved c.recall_image.ensures.quiet c.replay_log.ensures.quiet;
      cause = later_cause (c.in_ok-in_b.ensures.cause.fine ok_no_err)
          (handed_cause refl c.in_err-end.ensures.cause);
    })

pub returns : goal.returns
returns g c =
    let logs = g.P.Persist.logs in
    let now = c.replay_log.new.disk in
    let said = c.in_ok-end.ensures in
    let quiet = both_unmoved c.recall_image.ensures.quiet c.replay_log.ensures.quiet in
    let opens : opened (g.D.Disk.seen c.args.disk.now) ≡ Some c.deref-2.result.now =
    c.in_ok-in_b.ensures.image ∙ ap Some (sym c.deref-2.ensures.value) in
    record {
      value = subst (Restores logs g.P.Persist.reads g.P.Persist.leads c.replay_log.new.value)
          c.recall_image.ensures.quiet.same said.restored;
      lies = record {
        kept = said.kept;
        plain = λ plain.
            let none = neither c.args.logs (is_some c.in_ok-end.end)
            (sym c.is_logged.ensures ∙ plain) in (
              is_none c.in_ok-end.end none.1,
              plain_only logs (g.D.Disk.seen now) (g.D.Disk.may_leave now) said.kept.only
                  (subst (IsPlain logs) (sym quiet.same)
                  (λ i is. subst (λ l. logs l ≡ false) (same_some (sym opens ∙ is))
                  (sym said.logged ∙ none.1))),
            );
      };
      logs = λ is. c.is_logged.ensures ∙ ap (λ b. b || is_some c.in_ok-end.end) is;
      plain = λ is none.
          c.is_logged.ensures ∙ ap (λ b. b || is_some c.in_ok-end.end) is ∙ said.logged
          ∙ none c.deref-2.result.now opens;
      refused = tt;
      quiet = quiet;
      cause = later_cause (c.in_ok-in_b.ensures.cause.fine ok_no_err)
          (no_cause (said.cause.fine ok_no_err) ok_no_err);
    }
