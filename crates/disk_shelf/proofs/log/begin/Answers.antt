use Rattle.std.proofs.Common.{inl, false}
use Rattle.std.proofs.lemmas.Bool.{false≢true}
use Rattle.std.proofs.lemmas.Result.{on_ok_weaker}
use Rattle.disk_shelf.proofs.Logs.{all_ok}
use Rattle.disk_shelf.proofs.Turns.{Image, begin_torn, begun, laid, laid_intact}
use Rattle.disk_shelf.proofs.Moments.{joined, weaker}
use Rattle.disk.proofs.Causes.{err_cause, later_cause}
use Rattle.disk_shelf.proofs.log.begin.Given as given
use Rattle.disk_shelf.proofs.log.begin.Goals as goal
use Rattle.disk_shelf.proofs.log.begin.Goals.{In_ok-put_both}

it : (g : given.Over) (c : In_ok-put_both g) →
    Image c.args.logged c.args.seals c.args.image.now c.args.bytes.now
it g c = record { spelled = c.requires.spelled; fits = c.requires.fits }

pub returns-in_err-put_both-clause-any_moment : goal.returns-in_err-put_both-clause-any_moment
returns-in_err-put_both-clause-any_moment g c =
    weaker c.put_both.ensures.any_moment (λ x none. inl none)

pub returns-clause-any_moment : goal.returns-clause-any_moment
returns-clause-any_moment g c =
    let at = (goal.at.returns-clause-any_moment g c).In_ok-put_both in
    let s = g.D.Disk.seen c.args.disk.now in
    let t = g.D.Disk.seen c.put_both.new.disk in
    let a = laid (it g at) s.a t.a c.in_ok-put_both.ensures.a in
    let b = laid (it g at) s.b t.b c.in_ok-put_both.ensures.b in
    joined (weaker c.put_both.ensures.any_moment (λ x none. inl none))
    (weaker c.put.ensures.any_moment (λ x torn. begin_torn t a b x torn))

pub returns-clause-begun : goal.returns-clause-begun
returns-clause-begun g c =
    let at = (goal.at.returns-clause-begun g c).In_ok-put_both in
    let s = g.D.Disk.seen c.args.disk.now in
    let t = g.D.Disk.seen c.put_both.new.disk in
    let a = laid (it g at) s.a t.a c.in_ok-put_both.ensures.a in
    all_ok _ _ _ c.put.result c.put.ensures.durable
    (on_ok_weaker c.put.result (λ set. begun c.args.logged c.args.image.now c.mark-choice.result t a
    c.mark-choice.ensures.side
    (g.D.Disk.seen c.put.new.disk) set) c.put.ensures.written)

pub returns-clause-intact : goal.returns-clause-intact
returns-clause-intact g c plain =
    let at = (goal.at.returns-clause-intact g c).In_ok-put_both in
    let s = g.D.Disk.seen c.args.disk.now in
    let t = g.D.Disk.seen c.put_both.new.disk in
    on_ok_weaker c.put.result (λ set. laid_intact (it g at) false s.a t
    (g.D.Disk.seen c.put.new.disk) plain c.mark-choice.ensures.value c.in_ok-put_both.ensures.a set)
    c.put.ensures.written

pub returns-in_err-put_both-clause-cause : goal.returns-in_err-put_both-clause-cause
returns-in_err-put_both-clause-cause g c =
    err_cause c.in_err-put_both.ensures.cause c.from_residual.ensures.0

pub returns-clause-cause : goal.returns-clause-cause
returns-clause-cause g c =
    later_cause (c.in_ok-put_both.ensures.cause.fine false≢true) c.put.ensures.cause
