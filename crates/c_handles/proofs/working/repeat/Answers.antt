use Rattle.std.proofs.Common.{◌+◌, arith, subst, sym}
use Rattle.c_handles.specs.Work.{Repeats, at}
use Rattle.c_handles.proofs.Tries.{Led, led_all, led_done, led_failed}
use Rattle.c_handles.proofs.working.repeat.Goals as goal

pub returns-in-Err-clause-done : goal.returns-in-Err-clause-done
returns-in-Err-clause-done g c =
    subst (Repeats g.W.Worked.does c.args.task c.args.most (at c.args.on.now c.args.work.now)
    (at c.attempt.new.self c.loop.work)) (sym c.ending.ensures)
    (led_failed c.loop.invariant.led (omega (arith, c.loop-test.true, c.loop.auto.counter-end))
    c.attempt.new.self c.in-Err.fault c.in-Err.ensures)

pub loop-preserved : goal.loop-preserved
loop-preserved g c = record {
  led = subst (λ w. Led g.W.Worked.does c.args.task c.args.most (c.loop.counter + 1)
      (at c.args.on.now c.args.work.now) (at c.attempt.new.self w)) (sym c.count.ensures.counted)
      (led_done c.loop.invariant.led (omega (arith, c.loop-test.true, c.loop.auto.counter-end))
      c.attempt.new.self c.in-Ok.answer c.in-Ok.ensures);
  few = omega (arith, c.loop.invariant.few, c.count.ensures.few);
}

pub returns-clause-done : goal.returns-clause-done
returns-clause-done g c =
    led_all c.loop.invariant.led (omega (arith, c.loop-test.false, c.loop.auto.counter-end))
