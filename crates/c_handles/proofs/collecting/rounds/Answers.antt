use Rattle.std.proofs.Common.{arith, ◌∙◌}
use Rattle.std.proofs.lemmas.Result.{err_from_is_err_and}
use Rattle.c_handles.specs.Collecting.{helds}
use Rattle.c_handles.proofs.Moves.{all_rounds, round_failed, round_next, round_stopped}
use Rattle.c_handles.proofs.collecting.rounds.Goals as goal

pub returns-in_err-round-clause-does : goal.returns-in_err-round-clause-does
returns-in_err-round-clause-does c =
    let p = err_from_is_err_and c.from_residual.result c.from_residual.ensures.1 in
    rw (p.1, p.2) (round_failed c.args.count c.loop-round._round (helds c.args.cells.now)
    (helds c.loop-round.cells) c.loop-round.invariant.each (helds c.round.new.cells)
    c.in_err-round.field-0.0 (omega (arith, c.loop-round-test.true, c.loop-round.auto._round-end))
    c.in_err-round.ensures.does)

pub returns-then-is_enough-clause-does : goal.returns-then-is_enough-clause-does
returns-then-is_enough-clause-does c =
    round_stopped c.args.count c.loop-round._round (helds c.args.cells.now)
    (helds c.loop-round.cells) c.loop-round.invariant.each (helds c.round.new.cells)
    (helds c.is_enough.new.cells)
    (omega (arith, c.loop-round-test.true, c.loop-round.auto._round-end))
    c.in_ok-round.ensures.does c.is_enough.ensures.same
    (c.is_enough.ensures.unsaved c.if-is_enough.true)

pub loop-round-preserved : goal.loop-round-preserved
loop-round-preserved c = record {
  width = c.is_enough.ensures.width ∙ c.in_ok-round.ensures.width ∙ c.loop-round.invariant.width;
  each = round_next c.args.count c.loop-round._round (helds c.args.cells.now)
      (helds c.loop-round.cells) c.loop-round.invariant.each (helds c.round.new.cells)
      (helds c.is_enough.new.cells) c.in_ok-round.ensures.does c.is_enough.ensures.same;
}

pub returns-clause-does : goal.returns-clause-does
returns-clause-does c =
    all_rounds c.args.count c.loop-round._round (helds c.args.cells.now)
    (helds c.loop-round.cells) c.loop-round.invariant.each
    (omega (arith, c.loop-round-test.false, c.loop-round.auto._round-end))
