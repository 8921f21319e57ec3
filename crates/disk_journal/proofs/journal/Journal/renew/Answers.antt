use Rattle.std.proofs.Common.{◌≡◌, ◌∙◌, Err, Some, None, [], false, inl, ap, arith, cond, not, length, refl, subst, sym}
use Rattle.std.proofs.lemmas.Result.{err_from_is_err_and}
use Rattle.disk_shelf.specs.Logs.{IsWholeOn, Restores}
use Rattle.disk_shelf.proofs.Moments.{started}
use Rattle.disk_shelf.proofs.Quiet.{ok_no_err, same_err}
use Rattle.disk_shelf.proofs.Saves.{done_save, failed_save, unwritten_save}
use Rattle.disk_journal.proofs.Refusals.{disk_not_large}
use Rattle.disk_journal.proofs.Spelled.{Spelled, spelled_again, spelled_image, spelled_long}
use Rattle.disk_journal.proofs.Values.{kept_whole, placed_opens, plain_only, plain_opens, plain_turned}
use Rattle.disk_journal.proofs.Values.{restores_image, turned_leaves}
use Rattle.disk_journal.proofs.journal.Journal.renew.Given as given
use Rattle.disk_journal.proofs.journal.Journal.renew.Goals as goal
use Rattle.disk_journal.proofs.journal.Journal.renew.Goals.{After-image_in, In_ok-turn}

-- what is written
spelled : (g : given.Over) (c : After-image_in g) →
    Spelled c.args.self.now.tail.logs c.seals-seals.result
    (g.P.Persist.image c.args.self.now.tail.logs c.args.value.now) c.in_ok-bytes.field-0.end
    c.in_ok-bytes.field-0.bytes.items c.deref.result.now
spelled g c = record {
  seen = c.deref.ensures.value;
  spelled = c.in_ok-bytes.ensures.bytes;
  ends = c.in_ok-bytes.ensures.end;
}

-- the image is in it
same : (g : given.Over) (c : After-image_in g) →
    c.image_in.result.now ≡ g.P.Persist.image c.args.self.now.tail.logs c.args.value.now
same g c = spelled_image (spelled g c) c.image_in.ensures

-- once it is written
whole : (g : given.Over) (c : In_ok-turn g) →
    c.image_in.result.now ≡ g.P.Persist.image c.args.self.now.tail.logs c.args.value.now →
    IsWholeOn g.D.Disk.seen g.D.Disk.may_leave c.turn.new.disk (not c.args.self.now.tail.in_b)
    c.args.self.now.tail.logs (g.P.Persist.image c.args.self.now.tail.logs c.args.value.now)
whole g c is =
    subst (IsWholeOn g.D.Disk.seen g.D.Disk.may_leave c.turn.new.disk
    (not c.args.self.now.tail.in_b) c.args.self.now.tail.logs) is c.in_ok-turn.ensures.turned

pub image_in-requires : goal.image_in-requires
image_in-requires g c =
    let logs = c.args.self.now.tail.logs in
    let it : Spelled logs c.seals-seals.result (g.P.Persist.image logs c.args.value.now)
    c.in_ok-bytes.field-0.end c.in_ok-bytes.field-0.bytes.items c.deref.result.now = record {
      seen = c.deref.ensures.value;
      spelled = c.in_ok-bytes.ensures.bytes;
      ends = c.in_ok-bytes.ensures.end;
    } in
    record { behind = (spelled_long it).0; inside = (spelled_long it).1 }

pub turn-requires-clause-spelled : goal.turn-requires-clause-spelled
turn-requires-clause-spelled g c =
    spelled_again (spelled g (goal.at.turn-requires-clause-spelled g c).After-image_in)
    c.deref-2.ensures.value c.image_in.ensures

pub turn-requires-clause-fits : goal.turn-requires-clause-fits
turn-requires-clause-fits g c =
    let is = same g (goal.at.turn-requires-clause-fits g c).After-image_in in
    omega (arith, ap length is, c.in_ok-bytes.ensures.fits)

pub returns-in_err-bytes : goal.returns-in_err-bytes
returns-in_err-bytes g c =
    let p = err_from_is_err_and c.from_residual.result c.from_residual.ensures.1 in
    let was = c.args.self.now.disk in
    let kept = c.args.self.now.kept c.requires.ready in
    let refused = c.in_err-bytes.ensures.refused in
    rw (p.1, p.2) (record {
      saved = tt;
      any_moment = λ old r. started (λ x left.
          inl (subst (Restores g.P.Persist.logs g.P.Persist.reads g.P.Persist.leads old)
          (sym (kept.only x (g.met.D.Disk.only_now was x left))) r));
      after = unwritten_save c.requires.ready refused.others;
      too_large = (
        λ is. refused.too_large.0 (same_err is),
        λ large. ap Err (refused.too_large.1 large),
      );
      intact = λ _. tt;
      logs = refl;
    })

pub returns-in_err-turn : goal.returns-in_err-turn
returns-in_err-turn g c =
    let exit = c.from_residual-in_err-turn in
    let p = err_from_is_err_and exit.result exit.ensures.1 in
    let is = same g (goal.at.returns-in_err-turn g c).After-image_in in
    let follows = g.met.P.Persist.followed c.args.self.now.tail.logs c.args.value.now in
    rw (p.1, p.2) (record {
      saved = tt;
      any_moment = λ old r. turned_leaves follows c.in_ok-bytes.ensures.readable is r
          (c.turn.ensures.any_moment (g.P.Persist.logs r.image) r.image r.batches r.found);
      after = failed_save c.requires.ready (c.in_err-turn.ensures.cause.failed refl) refl;
      too_large = (
        λ is. absurd (disk_not_large is),
        λ large. absurd (c.in_ok-bytes.ensures.within large),
      );
      intact = λ _. tt;
      logs = refl;
    })

pub returns : goal.returns
returns g c =
    let at = goal.at.returns g c in
    let is = same g at.After-image_in in
    let now = whole g at.In_ok-turn is in
    let follows = g.met.P.Persist.followed c.args.self.now.tail.logs c.args.value.now in
    record {
      saved = restores_image follows c.in_ok-bytes.ensures.readable
          (placed_opens (not c.args.self.now.tail.in_b) now.1 now.2);
      any_moment = λ old r. turned_leaves follows c.in_ok-bytes.ensures.readable is r
          (c.turn.ensures.any_moment (g.P.Persist.logs r.image) r.image r.batches r.found);
      after = done_save c.requires.ready refl;
      too_large = (
        λ is. absurd (ok_no_err is),
        λ large. absurd (c.in_ok-bytes.ensures.within large),
      );
      intact = λ plain. c.in_ok-turn.ensures.intact plain;
      logs = refl;
    }

pub invariant_of-self : goal.invariant_of-self
invariant_of-self g c =
    let was = c.args.self.now in
    let old = was.disk in
    let new = c.turn.new.disk in
    let is = same g (goal.at.invariant_of-self g c).After-image_in in
    let follows = g.met.P.Persist.followed was.tail.logs c.args.value.now in
    let leaves = c.turn.ensures.any_moment in
    record {
      kept = λ ready. absurd cc;
      plain = λ plain. (
        (was.plain plain).0,
        λ x left.
            plain_turned g.P.Persist.logs (was.kept c.requires.ready)
            ((was.plain plain).1 (g.D.Disk.seen old) (g.met.D.Disk.reads_left old))
            (ap g.P.Persist.logs is ∙ follows ∙ plain)
            (λ image opens.
            let moment = leaves false image [] opens in
            moment.each x (g.met.D.Disk.counts_now new (g.D.Disk.moment old) x moment.later left)),
      );
    }

pub invariant_of-self-2 : goal.invariant_of-self-2
invariant_of-self-2 g c =
    let at = goal.at.invariant_of-self-2 g c in
    let is = whole g at.In_ok-turn (same g at.After-image_in) in
    let logs = c.args.self.now.tail.logs in
    let disk = c.turn.new.disk in
    let follows = g.met.P.Persist.followed logs c.args.value.now in
    record {
      kept = λ _. kept_whole (g.P.Persist.image logs c.args.value.now) is follows
          (c.first_gate.ensures
          ∙ ap (λ n. cond logs (Some n) None) c.in_ok-bytes.ensures.end);
      plain = λ plain. (
        c.first_gate.ensures ∙ ap (λ b. cond b (Some c.in_ok-bytes.field-0.end) None) plain,
        plain_only g.P.Persist.logs (g.D.Disk.seen disk) (g.D.Disk.may_leave disk) is.0
            (plain_opens g.P.Persist.logs (follows ∙ plain)
            (placed_opens (not c.args.self.now.tail.in_b) is.1 is.2)),
      );
    }
