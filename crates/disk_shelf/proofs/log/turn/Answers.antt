use Rattle.std.proofs.Common.{inl, length}
use Rattle.std.proofs.lemmas.Bool.{false≢true}
use Rattle.std.proofs.lemmas.Result.{on_ok_weaker}
use Rattle.disk.specs.Areas.{Torn}
use Rattle.disk_shelf.proofs.Logs.{all_ok}
use Rattle.disk_shelf.proofs.Turns.{Turning, aside_kept, turn_torn, turned, turned_intact}
use Rattle.disk_shelf.proofs.Moments.{joined, weaker}
use Rattle.disk.proofs.Causes.{err_cause, later_cause}
use Rattle.disk_shelf.proofs.log.turn.Given as given
use Rattle.disk_shelf.proofs.log.turn.Goals as goal
use Rattle.disk_shelf.proofs.log.turn.Goals.{After-half}

-- the image goes into the other area
turning : (g : given.Over) (c : After-half g) →
    Turning c.args.in_b c.half.result c.args.logged c.args.seals c.args.image.now c.args.bytes.now
    (g.D.Disk.seen c.args.disk.now)
turning g c = record {
  other = c.half.ensures;
  selected = c.requires.selected;
  it = record { spelled = c.requires.spelled; fits = c.requires.fits };
}

pub returns-in_err-put-clause-any_moment : goal.returns-in_err-put-clause-any_moment
returns-in_err-put-clause-any_moment g c was old batches opens =
    let at = (goal.at.returns-in_err-put-clause-any_moment g c).After-half in
    let step = Torn 0 (length c.args.bytes.now) in
    weaker c.put.ensures.any_moment
    (λ x torn. inl (aside_kept (turning g at) step was old batches opens x torn))

pub returns-clause-any_moment : goal.returns-clause-any_moment
returns-clause-any_moment g c was old batches opens =
    let at = (goal.at.returns-clause-any_moment g c).After-half in
    let t = g.D.Disk.seen c.put.new.disk in
    let step = Torn 0 (length c.args.bytes.now) in
    joined
    (weaker c.put.ensures.any_moment
    (λ x torn. inl (aside_kept (turning g at) step was old batches opens x torn)))
    (weaker c.put-2.ensures.any_moment
    (λ x torn. turn_torn (turning g at) t c.in_ok-put.ensures.written opens x torn))

pub returns-clause-turned : goal.returns-clause-turned
returns-clause-turned g c =
    let at = (goal.at.returns-clause-turned g c).After-half in
    all_ok _ _ _ c.put-2.result c.put-2.ensures.durable
    (on_ok_weaker c.put-2.result (λ set. turned (turning g at) (g.D.Disk.seen c.put.new.disk)
    c.in_ok-put.ensures.written c.mark-choice.result c.mark-choice.ensures.side
    (g.D.Disk.seen c.put-2.new.disk) set) c.put-2.ensures.written)

pub returns-clause-intact : goal.returns-clause-intact
returns-clause-intact g c plain =
    let at = (goal.at.returns-clause-intact g c).After-half in
    on_ok_weaker c.put-2.result (λ set. turned_intact (turning g at) (g.D.Disk.seen c.put.new.disk)
    c.in_ok-put.ensures.written (g.D.Disk.seen c.put-2.new.disk) plain c.mark-choice.ensures.value
    set) c.put-2.ensures.written

pub returns-in_err-put-clause-cause : goal.returns-in_err-put-clause-cause
returns-in_err-put-clause-cause g c =
    err_cause c.in_err-put.ensures.cause c.from_residual.ensures.0

pub returns-clause-cause : goal.returns-clause-cause
returns-clause-cause g c =
    later_cause (c.in_ok-put.ensures.cause.fine false≢true) c.put-2.ensures.cause
