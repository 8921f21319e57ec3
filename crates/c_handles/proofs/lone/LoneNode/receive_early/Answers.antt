use Rattle.std.proofs.Common.{Err, Ok, arith, subst}
use Rattle.std.proofs.lemmas.Result.{err_from_is_err_and}
use Rattle.c_handles.specs.Work.{NodeDoes, Plays, at}
use Rattle.c_handles.proofs.Tries.{turn_done, turn_ended, turns_done}
use Rattle.c_handles.proofs.lone.LoneNode.receive_early.Goals as goal

pub returns-in_err-receive_from-clause-done : goal.returns-in_err-receive_from-clause-done
returns-in_err-receive_from-clause-done c =
    let p = err_from_is_err_and c.from_residual.result c.from_residual.ensures.1 in
    let f = c.in_err-receive_from.field-0.0 in
    let new = at c.receive_from.new.self c.receive_from.new.work in
    rw (p.1, p.2) (subst (λ ps. Plays NodeDoes ps (at c.args.self.now c.args.work.now) new (Err f))
    c.loop-from.invariant.plan
    (turn_ended c.loop-from.invariant.led
    (omega (arith, c.loop-from-test.true, c.loop-from.auto.from-end)) new f
    c.in_err-receive_from.ensures.done))

pub loop-from-preserved : goal.loop-from-preserved
loop-from-preserved c = record {
  plan = c.loop-from.invariant.plan;
  led = turn_done c.loop-from.invariant.led
      (omega (arith, c.loop-from-test.true, c.loop-from.auto.from-end))
      (at c.receive_from.new.self c.receive_from.new.work) c.in_ok-receive_from.ensures.done;
  few = omega (arith, c.loop-from.invariant.few, c.in_ok-receive_from.ensures.few);
}

pub returns-clause-done : goal.returns-clause-done
returns-clause-done c =
    let now = at c.loop-from.self c.loop-from.work in
    subst (λ ps. Plays NodeDoes ps (at c.args.self.now c.args.work.now) now (Ok tt))
    c.loop-from.invariant.plan
    (turns_done c.loop-from.invariant.led
    (omega (arith, c.loop-from-test.false, c.loop-from.auto.from-end)))
