use Rattle.std.proofs.Common.{◌∙◌, ⊎_elim, IfSome, inl, inr, refl, subst, sym}
use Rattle.std.proofs.lemmas.Bool.{false≢true}
use Rattle.std.proofs.lemmas.Result.{on_ok_weaker}
use Rattle.disk_shelf.specs.Logs.{OpensIf}
use Rattle.disk_shelf.proofs.Moments.{weaker}
use Rattle.disk_shelf.proofs.Quiet.{some_no_none}
use Rattle.disk_shelf.proofs.Saves.{shut_save}
use Rattle.disk_journal.proofs.Refusals.{closed_not_large, not_refused}
use Rattle.disk_journal.proofs.Values.{found_log, restores_more, restores_still}
use Rattle.disk_journal.proofs.journal.Journal.save.Goals as goal

pub returns-then-not-self : goal.returns-then-not-self
returns-then-not-self g c = record {
  saved = tt;
  any_moment = λ is. absurd (false≢true (sym c.if-not-self.true ∙ is));
  after = shut_save c.if-not-self.true;
  too_large = (
    λ is. absurd (closed_not_large is),
    λ all. absurd (false≢true (sym c.if-not-self.true ∙ all.0)),
  );
  intact = λ _. tt;
  logs = refl;
}

pub returns-in_default : goal.returns-in_default
returns-in_default g c =
    let said = c.renew.ensures in
    record {
      saved = on_ok_weaker c.renew.result (λ saved old r led. saved) said.saved;
      any_moment = λ is old r led. said.any_moment old r;
      after = said.after;
      too_large = (
        λ is. (c.if-not-self.false, rw c.in_default.is tt, said.too_large.0 is),
        λ all. said.too_large.1 all.2,
      );
      intact = said.intact;
      logs = said.logs;
    }

pub returns-in_default-place_for : goal.returns-in_default-place_for
returns-in_default-place_for g c =
    let said = c.renew-in_default-place_for.ensures in
    record {
      saved = on_ok_weaker c.renew-in_default-place_for.result
          (λ saved old r led. saved) said.saved;
      any_moment = λ is old r led. said.any_moment old r;
      after = said.after;
      too_large = (
        λ is. (
          c.if-not-self.false,
          rw c.in-Some.is (sym c.place_for.ensures.value ∙ c.in_default-place_for.is),
          said.too_large.0 is,
        ),
        λ all. said.too_large.1 all.2,
      );
      intact = said.intact;
      logs = said.logs;
    }

pub returns : goal.returns
returns g c =
    let was = c.args.self.now in
    let said = c.append.ensures in
    let kept = was.kept c.if-not-self.false in
    let saved = g.P.Persist.saved c.args.value.now in
    record {
      saved = on_ok_weaker c.append.result (λ added old r led.
          let log = found_log kept.selected kept.behind c.in-Some-place_for.ensures.here r in
          restores_more r log.0
          (subst (λ o. IfSome o (λ b. g.P.Persist.leads b.now old saved)) c.in-Some.is led)
          (added r.image r.batches log.1)) said.added;
      any_moment = λ is old r led.
          let log = found_log kept.selected kept.behind c.in-Some-place_for.ensures.here r in
          weaker (said.any_moment r.image r.batches log.1)
          (λ x. ⊎_elim
          (λ still. inl (restores_still r
          (subst (λ b. OpensIf b r.image r.batches x) (sym log.0) still)))
          (λ more. inr (restores_more r log.0
          (subst (λ o. IfSome o (λ b. g.P.Persist.leads b.now old saved)) c.in-Some.is led) more)));
      after = said.after;
      too_large = (
        λ is. absurd (not_refused said.not_large is),
        λ all. absurd (some_no_none (sym c.place_for.ensures.value ∙ c.in-Some-place_for.is)
            (rw c.in-Some.is at all.1)),
      );
      intact = λ plain. absurd (some_no_none c.in-Some-place_for.ensures.here (was.plain plain).0);
      logs = said.logs;
    }
