use Rattle.std.proofs.Common.{length, true, false, sym, subst}
use Rattle.std.proofs.lemmas.Result.{on_ok_weaker}
use Rattle.std.proofs.lemmas.Bool.{false≢true}
use Rattle.disk.specs.Areas.{Holds, Torn}
use Rattle.disk_shelf.proofs.Moments.{goes_on, started}
use Rattle.disk_shelf.proofs.Sides.{still_blank}
use Rattle.disk.proofs.Causes.{err_cause, later_cause}
use Rattle.disk_shelf.proofs.save.write_both.Goals as goal

pub returns-in_err-write_at-clause-crash : goal.returns-in_err-write_at-clause-crash
returns-in_err-write_at-clause-crash g c =
    let leaves = g.D.Disk.may_leave in
    still_blank false (Torn 0 (length c.args.bytes.now)) (leaves c.args.disk.now)
    (leaves c.write_at.new.self) c.write_at.ensures.crash c.requires

pub returns-in_err-write_at-clause-any_moment : goal.returns-in_err-write_at-clause-any_moment
returns-in_err-write_at-clause-any_moment g c =
    goes_on (started (λ s left. c.requires s (g.met.D.Disk.only_now c.args.disk.now s left)))
    c.write_at.ensures.time (returns-in_err-write_at-clause-crash g c)

pub returns-clause-crash : goal.returns-clause-crash
returns-clause-crash g c =
    let leaves = g.D.Disk.may_leave in
    still_blank true (Torn 0 _) (leaves c.write_at.new.self) (leaves c.write_at-2.new.self)
    c.write_at-2.ensures.crash
    (still_blank false (Torn 0 (length c.args.bytes.now)) (leaves c.args.disk.now)
    (leaves c.write_at.new.self) c.write_at.ensures.crash c.requires)

pub returns-clause-any_moment : goal.returns-clause-any_moment
returns-clause-any_moment g c =
    let old = c.args.disk.now in
    let leaves = g.D.Disk.may_leave in
    goes_on
    (goes_on (started (λ s left. c.requires s (g.met.D.Disk.only_now old s left)))
    c.write_at.ensures.time
    (still_blank false (Torn 0 (length c.args.bytes.now)) (leaves old) (leaves c.write_at.new.self)
    c.write_at.ensures.crash c.requires))
    c.write_at-2.ensures.time (returns-clause-crash g c)

pub returns-clause-a : goal.returns-clause-a
returns-clause-a g c =
    on_ok_weaker c.write_at-2.result
    (λ written. subst (Holds 0 c.args.bytes.now (g.D.Disk.seen c.args.disk.now).a) (sym written.2)
    c.in_ok-write_at.ensures.written.0) c.write_at-2.ensures.written

pub returns-clause-b : goal.returns-clause-b
returns-clause-b g c =
    on_ok_weaker c.write_at-2.result
    (λ written. subst (λ b. Holds 0 c.args.bytes.now b (g.D.Disk.seen c.write_at-2.new.self).b)
    c.in_ok-write_at.ensures.written.2 written.0) c.write_at-2.ensures.written

pub returns-in_err-write_at-clause-cause : goal.returns-in_err-write_at-clause-cause
returns-in_err-write_at-clause-cause g c =
    err_cause c.in_err-write_at.ensures.cause c.from_residual.ensures.0

pub returns-clause-cause : goal.returns-clause-cause
returns-clause-cause g c =
    later_cause (c.in_ok-write_at.ensures.cause.fine false≢true) c.write_at-2.ensures.cause
