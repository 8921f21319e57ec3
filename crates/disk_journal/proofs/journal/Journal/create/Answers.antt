use Rattle.std.proofs.Common.{◌≡◌, ◌∙◌, ⊎_elim, inl, inr, ap, arith, cond, false, length, Some, None, subst}
use Rattle.disk.specs.Crashes.{LeavesOnly}
use Rattle.disk_journal.specs.Journal.{RestoresNone}
use Rattle.disk_shelf.specs.Logs.{IsWholeOn, NoneOrWhole}
use Rattle.disk_shelf.proofs.Moments.{weaker}
use Rattle.disk_journal.proofs.Spelled.{Spelled, spelled_again, spelled_image, spelled_long}
use Rattle.disk_journal.proofs.Values.{kept_whole, plain_only, placed_opens, plain_opens, restores_image}
use Rattle.disk_journal.proofs.journal.Journal.create.Given as given
use Rattle.disk_journal.proofs.journal.Journal.create.Goals as goal
use Rattle.disk_journal.proofs.journal.Journal.create.Goals.{After-begin, After-image_in, In-Ok-begin}

-- what is written
spelled : (g : given.Over) (c : After-image_in g) →
    Spelled c.args.logs c.seals-seals.result (g.P.Persist.image c.args.logs c.args.value.now)
    c.in-Ok.spelled.end c.in-Ok.spelled.bytes.items c.deref.result.now
spelled g c = record {
  seen = c.deref.ensures.value;
  spelled = c.in-Ok.ensures.bytes;
  ends = c.in-Ok.ensures.end;
}

-- the image is in it
same : (g : given.Over) (c : After-image_in g) →
    c.image_in.result.now ≡ g.P.Persist.image c.args.logs c.args.value.now
same g c = spelled_image (spelled g c) c.image_in.ensures

-- what a crash leaves, whether the disk failed or not
leaves : (g : given.Over) (c : After-begin g) →
    c.image_in.result.now ≡ g.P.Persist.image c.args.logs c.args.value.now →
    LeavesOnly g.D.Disk.moment g.D.Disk.left_since c.args.disk c.begin.new.disk
    (RestoresNone g.P.Persist.logs g.P.Persist.reads g.P.Persist.leads
    (g.P.Persist.saved c.args.value.now))
leaves g c is =
    weaker
    (subst (λ l. LeavesOnly g.D.Disk.moment g.D.Disk.left_since c.args.disk c.begin.new.disk
    (NoneOrWhole c.args.logs l)) is c.begin.ensures.any_moment)
    (λ x. ⊎_elim inl (λ opens. inr
    (restores_image (g.met.P.Persist.followed c.args.logs c.args.value.now)
    c.in-Ok.ensures.readable opens)))

-- and once it is written
whole : (g : given.Over) (c : In-Ok-begin g) →
    c.image_in.result.now ≡ g.P.Persist.image c.args.logs c.args.value.now →
    IsWholeOn g.D.Disk.seen g.D.Disk.may_leave c.begin.new.disk false c.args.logs
    (g.P.Persist.image c.args.logs c.args.value.now)
whole g c is =
    subst (IsWholeOn g.D.Disk.seen g.D.Disk.may_leave c.begin.new.disk false c.args.logs) is
    c.in-Ok-begin.ensures.begun

pub image_in-requires : goal.image_in-requires
image_in-requires g c =
    let it : Spelled c.args.logs c.seals-seals.result
    (g.P.Persist.image c.args.logs c.args.value.now) c.in-Ok.spelled.end
    c.in-Ok.spelled.bytes.items c.deref.result.now = record {
      seen = c.deref.ensures.value;
      spelled = c.in-Ok.ensures.bytes;
      ends = c.in-Ok.ensures.end;
    } in
    record { behind = (spelled_long it).0; inside = (spelled_long it).1 }

pub begin-requires-clause-spelled : goal.begin-requires-clause-spelled
begin-requires-clause-spelled g c =
    spelled_again (spelled g (goal.at.begin-requires-clause-spelled g c).After-image_in)
    c.deref-2.ensures.value c.image_in.ensures

pub begin-requires-clause-fits : goal.begin-requires-clause-fits
begin-requires-clause-fits g c =
    let is = same g (goal.at.begin-requires-clause-fits g c).After-image_in in
    omega (arith, ap length is, c.in-Ok.ensures.fits)

pub returns-in-Err-begin-clause-any_moment : goal.returns-in-Err-begin-clause-any_moment
returns-in-Err-begin-clause-any_moment g c =
    let at = goal.at.returns-in-Err-begin-clause-any_moment g c in
    leaves g at.After-begin (same g at.After-image_in)

pub returns-clause-any_moment : goal.returns-clause-any_moment
returns-clause-any_moment g c =
    let at = goal.at.returns-clause-any_moment g c in
    leaves g at.After-begin (same g at.After-image_in)

pub returns-clause-created : goal.returns-clause-created
returns-clause-created g c =
    let at = goal.at.returns-clause-created g c in
    let is = whole g at.In-Ok-begin (same g at.After-image_in) in
    restores_image (g.met.P.Persist.followed c.args.logs c.args.value.now) c.in-Ok.ensures.readable
    (placed_opens false is.1 is.2)

pub invariant_of-result : goal.invariant_of-result
invariant_of-result g c =
    let at = goal.at.invariant_of-result g c in
    let is = whole g at.In-Ok-begin (same g at.After-image_in) in
    let image = g.P.Persist.image c.args.logs c.args.value.now in
    let logs = g.P.Persist.logs in
    let disk = c.begin.new.disk in
    let follows = g.met.P.Persist.followed c.args.logs c.args.value.now in
    record {
      kept = λ _. kept_whole image is follows
          (c.first_gate.ensures ∙ ap (λ n. cond c.args.logs (Some n) None) c.in-Ok.ensures.end);
      plain = λ plain. (
        c.first_gate.ensures ∙ ap (λ b. cond b (Some c.in-Ok.spelled.end) None) plain,
        plain_only logs (g.D.Disk.seen disk) (g.D.Disk.may_leave disk) is.0
            (plain_opens logs (follows ∙ plain) (placed_opens false is.1 is.2)),
      );
    }
