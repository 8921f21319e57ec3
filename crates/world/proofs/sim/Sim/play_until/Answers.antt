use Rattle.std.proofs.Common.{arith, subst}
use Rattle.std.proofs.lemmas.Result.{err_from_is_err_and}
use Rattle.world.proofs.Playing.{Finds, found-here, moves-on, breaks-off}
use Rattle.world.proofs.sim.Sim.play_until.Goals as goal

pub returns-then-is_swept-clause-plays : goal.returns-then-is_swept-clause-plays
returns-then-is_swept-clause-plays c = λ w shown.
    found-here shown (c.loop-moves.invariant w shown)
    (subst (λ b. Finds b c.loop-moves.self c.args.cycle) c.if-is_swept.true c.is_swept.ensures)

pub returns-in_err-play-clause-plays : goal.returns-in_err-play-clause-plays
returns-in_err-play-clause-plays c =
    let p = err_from_is_err_and c.from_residual.result c.from_residual.ensures.1 in
    rw (p.1, p.2)
    (λ w shown.
    breaks-off c.in_err-play.field-0.0 shown (omega (arith, c.loop-moves-test.true))
    (c.loop-moves.invariant w shown)
    (subst (λ b. Finds b c.loop-moves.self c.args.cycle) c.if-is_swept.false c.is_swept.ensures)
    c.in_err-play.ensures.takes)

pub returns-in_err-play-clause-too_large : goal.returns-in_err-play-clause-too_large
returns-in_err-play-clause-too_large c =
    let p = err_from_is_err_and c.from_residual.result c.from_residual.ensures.1 in
    rw (p.1, p.2) c.in_err-play.ensures.too_large

pub loop-moves-preserved : goal.loop-moves-preserved
loop-moves-preserved c = λ w shown.
    moves-on c.in_ok-play.field-0 shown (c.loop-moves.invariant w shown)
    (subst (λ b. Finds b c.loop-moves.self c.args.cycle) c.if-is_swept.false c.is_swept.ensures)
    c.in_ok-play.ensures.takes
