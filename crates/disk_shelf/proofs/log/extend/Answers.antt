use Rattle.std.proofs.Common.{◌+◌, ◌≤◌, inl, length, subst, sym}
use Rattle.std.proofs.Math.Logic.{∥∥₁_elim}
use Rattle.std.proofs.Props.{props}
use Rattle.std.proofs.lemmas.Bool.{false≢true}
use Rattle.std.proofs.lemmas.Result.{on_ok_weaker}
use Rattle.disk.specs.Areas.{part}
use Rattle.disk_shelf.proofs.Logs.{Adding, batch_added, end_found, end_moved, first_torn, second_torn}
use Rattle.disk_shelf.proofs.Logs.{all_ok}
use Rattle.disk_shelf.proofs.Moments.{joined, weaker}
use Rattle.disk.proofs.Causes.{err_cause, later_cause}
use Rattle.disk_shelf.proofs.log.extend.Given as given
use Rattle.disk_shelf.proofs.log.extend.Goals as goal
use Rattle.disk_shelf.proofs.log.extend.Goals.{After-half-area}

-- the batch goes behind the log
adding : (g : given.Over) (c : After-half-area g) →
    Adding c.args.in_b c.half-area.result c.args.end c.args.batch.now c.args.bytes.now
    (g.D.Disk.seen c.args.disk.now)
adding g c = record {
  here = c.half-area.ensures;
  selected = c.requires.logged.1;
  found = c.requires.logged.2;
  spelled = c.requires.spelled;
  fits = c.requires.fits;
}

pub put-requires-clause-within : goal.put-requires-clause-within
put-requires-clause-within g c =
    let d = g.D.Disk.seen c.args.disk.now in
    subst (λ a. c.args.end + 1 ≤ length (part a d)) (sym c.half-area.ensures)
    (∥∥₁_elim c.requires.logged.2 (hlevel props) end_found)

pub returns-in_err-put-clause-any_moment : goal.returns-in_err-put-clause-any_moment
returns-in_err-put-clause-any_moment g c image batches opens =
    let at = (goal.at.returns-in_err-put-clause-any_moment g c).After-half-area in
    weaker c.put.ensures.any_moment
    (λ x torn. inl (first_torn (adding g at) image batches opens x torn))

pub returns-clause-any_moment : goal.returns-clause-any_moment
returns-clause-any_moment g c image batches opens =
    let t = g.D.Disk.seen c.put.new.disk in
    let at = (goal.at.returns-clause-any_moment g c).After-half-area in
    joined
    (weaker c.put.ensures.any_moment
    (λ x torn. inl (first_torn (adding g at) image batches opens x torn)))
    (weaker c.put-2.ensures.any_moment
    (λ x torn. second_torn (adding g at) t c.in_ok-put.ensures.written image batches opens x torn))

pub returns-clause-added : goal.returns-clause-added
returns-clause-added g c =
    let at = (goal.at.returns-clause-added g c).After-half-area in
    on_ok_weaker c.put-2.result (λ set image batches opens.
    batch_added (adding g at)
    (g.D.Disk.seen c.put.new.disk) c.in_ok-put.ensures.written c.open_gate-gate.result
    c.open_gate-gate.ensures.odd image batches opens
    (g.D.Disk.seen c.put-2.new.disk) set) c.put-2.ensures.written

pub returns-clause-logged : goal.returns-clause-logged
returns-clause-logged g c =
    let at = (goal.at.returns-clause-logged g c).After-half-area in
    all_ok _ _ _ c.put-2.result c.put-2.ensures.durable
    (on_ok_weaker c.put-2.result (λ set. end_moved (adding g at)
    (g.D.Disk.seen c.put.new.disk) c.in_ok-put.ensures.written c.open_gate-gate.result
    c.open_gate-gate.ensures.odd (g.D.Disk.seen c.put-2.new.disk) set) c.put-2.ensures.written)

pub returns-in_err-put-clause-cause : goal.returns-in_err-put-clause-cause
returns-in_err-put-clause-cause g c =
    err_cause c.in_err-put.ensures.cause c.from_residual.ensures.0

pub returns-clause-cause : goal.returns-clause-cause
returns-clause-cause g c =
    later_cause (c.in_ok-put.ensures.cause.fine false≢true) c.put-2.ensures.cause
