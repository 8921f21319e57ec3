use Rattle.std.proofs.Common.{subst, sym}
use Rattle.std.proofs.lemmas.Result.{on_ok_weaker}
use Rattle.std.proofs.lemmas.Bool.{false≢true}
use Rattle.disk.specs.Areas.{Holds}
use Rattle.disk.specs.Crashes.{Only}
use Rattle.disk_shelf.proofs.Moments.{goes_on}
use Rattle.disk.proofs.Causes.{err_cause, later_cause}
use Rattle.disk_shelf.proofs.save.put_both.Goals as goal

pub returns-clause-any_moment : goal.returns-clause-any_moment
returns-clause-any_moment g c =
    goes_on c.write_both.ensures.any_moment c.sync.ensures.time
    (λ x left. c.write_both.ensures.crash x (c.sync.ensures.crash x left))

pub returns-clause-a : goal.returns-clause-a
returns-clause-a g c =
    on_ok_weaker c.sync.result
    (λ _. subst (λ x. Holds 0 c.args.bytes.now (g.D.Disk.seen c.args.disk.now).a x.a)
    (sym c.sync.ensures.seen) c.in_ok-write_both.ensures.a) c.sync.ensures.durable

pub returns-clause-b : goal.returns-clause-b
returns-clause-b g c =
    on_ok_weaker c.sync.result
    (λ _. subst (λ x. Holds 0 c.args.bytes.now (g.D.Disk.seen c.args.disk.now).b x.b)
    (sym c.sync.ensures.seen) c.in_ok-write_both.ensures.b) c.sync.ensures.durable

pub returns-clause-durable : goal.returns-clause-durable
returns-clause-durable g c =
    on_ok_weaker c.sync.result
    (λ only. subst (λ x. Only x (g.D.Disk.may_leave c.sync.new.self))
    (sym c.sync.ensures.seen) only) c.sync.ensures.durable

pub returns-in_err-write_both-clause-cause : goal.returns-in_err-write_both-clause-cause
returns-in_err-write_both-clause-cause g c =
    err_cause c.in_err-write_both.ensures.cause c.from_residual.ensures.0

pub returns-clause-cause : goal.returns-clause-cause
returns-clause-cause g c =
    later_cause (c.in_ok-write_both.ensures.cause.fine false≢true) c.sync.ensures.cause
