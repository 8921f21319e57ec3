use Rattle.std.proofs.lemmas.Result.{err_from_is_err_and}
use Rattle.world.proofs.Playing.{at-step, broken, not-saved, taken-more}
use Rattle.world.proofs.sim.Sim.take_all.Goals as goal

pub returns-in_err-step-clause-takes : goal.returns-in_err-step-clause-takes
returns-in_err-step-clause-takes c =
    let p = err_from_is_err_and c.from_residual.result c.from_residual.ensures.1 in
    rw (p.1, p.2)
    (λ w shown.
    let at = at-step w c.args.steps.now c.loop-step.step-index c.step-item.result c.requires
    c.loop-step-test.true c.step-item.is (c.loop-step.invariant w shown) in
    broken c.step.new.self c.in_err-step.field-0.0 at c.in_err-step.ensures.follows)

pub returns-in_err-step-clause-too_large : goal.returns-in_err-step-clause-too_large
returns-in_err-step-clause-too_large c =
    let p = err_from_is_err_and c.from_residual.result c.from_residual.ensures.1 in
    rw (p.1, p.2)
    (not-saved c.step-item.result c.in_err-step.field-0.0 c.in_err-step.ensures.too_large
    c.in_err-step.ensures.unchanged)

pub loop-step-preserved : goal.loop-step-preserved
loop-step-preserved c = λ w shown.
    let at = at-step w c.args.steps.now c.loop-step.step-index c.step-item.result c.requires
    c.loop-step-test.true c.step-item.is (c.loop-step.invariant w shown) in
    taken-more c.step.new.self c.in_ok-step.field-0 at c.in_ok-step.ensures.follows
