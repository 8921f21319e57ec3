use Rattle.std.proofs.Common.{length, subst, sym}
use Rattle.std.proofs.lemmas.Result.{on_ok_weaker}
use Rattle.std.proofs.lemmas.Bool.{false≢true}
use Rattle.disk.specs.Areas.{Changes, Holds, Torn}
use Rattle.disk.specs.Crashes.{Only}
use Rattle.disk_shelf.proofs.Moments.{goes_on, wrote}
use Rattle.disk.proofs.Causes.{err_cause, later_cause}
use Rattle.disk_shelf.proofs.save.put.Goals as goal

pub returns-in_err-write_at-clause-any_moment : goal.returns-in_err-write_at-clause-any_moment
returns-in_err-write_at-clause-any_moment g c =
    wrote (g.D.Disk.seen c.args.disk.now) c.args.area c.args.at (length c.args.bytes.now)
    c.requires.durable (λ x left. g.met.D.Disk.only_now c.args.disk.now x left)
    c.write_at.ensures.crash c.write_at.ensures.time

pub returns-clause-any_moment : goal.returns-clause-any_moment
returns-clause-any_moment g c =
    let s = g.D.Disk.seen c.args.disk.now in
    let step = Changes c.args.area (Torn c.args.at (length c.args.bytes.now)) in
    goes_on
    (wrote s c.args.area c.args.at (length c.args.bytes.now) c.requires.durable
    (λ x left. g.met.D.Disk.only_now c.args.disk.now x left) c.write_at.ensures.crash
    c.write_at.ensures.time)
    c.sync.ensures.time
    (λ x left.
    let from = c.write_at.ensures.crash x (c.sync.ensures.crash x left) in
    subst (λ d. step d x) (c.requires.durable from.0 from.1) from.2)

pub returns-clause-written : goal.returns-clause-written
returns-clause-written g c =
    let s = g.D.Disk.seen c.args.disk.now in
    on_ok_weaker c.sync.result
    (λ _. subst (λ x. Changes c.args.area (Holds c.args.at c.args.bytes.now) s x)
    (sym c.sync.ensures.seen) c.in_ok-write_at.ensures.written) c.sync.ensures.durable

pub returns-clause-durable : goal.returns-clause-durable
returns-clause-durable g c =
    on_ok_weaker c.sync.result
    (λ only. subst (λ x. Only x (g.D.Disk.may_leave c.sync.new.self))
    (sym c.sync.ensures.seen) only) c.sync.ensures.durable

pub returns-in_err-write_at-clause-cause : goal.returns-in_err-write_at-clause-cause
returns-in_err-write_at-clause-cause g c =
    err_cause c.in_err-write_at.ensures.cause c.from_residual.ensures.0

pub returns-clause-cause : goal.returns-clause-cause
returns-clause-cause g c =
    later_cause (c.in_ok-write_at.ensures.cause.fine false≢true) c.sync.ensures.cause
