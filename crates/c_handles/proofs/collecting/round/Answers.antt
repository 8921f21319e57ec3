use Rattle.std.proofs.Common.{arith, ◌∙◌}
use Rattle.std.proofs.lemmas.Result.{err_from_is_err_and}
use Rattle.c_handles.specs.Collecting.{Turn, helds}
use Rattle.c_handles.proofs.Moves.{each_all, each_failed, each_next}
use Rattle.c_handles.proofs.collecting.round.Goals as goal

pub returns-in_err-turn-clause-does : goal.returns-in_err-turn-clause-does
returns-in_err-turn-clause-does c =
    let p = err_from_is_err_and c.from_residual.result c.from_residual.ensures.1 in
    rw (p.1, p.2) (each_failed (Turn c.args.count) c.loop-node.node c.args.count
    (helds c.args.cells.now) (helds c.loop-node.cells) (helds c.turn.new.cells)
    c.in_err-turn.field-0.0 c.loop-node.invariant.each
    (omega (arith, c.loop-node-test.true, c.loop-node.auto.node-end)) c.in_err-turn.ensures.does)

pub loop-node-preserved : goal.loop-node-preserved
loop-node-preserved c = record {
  width = c.in_ok-turn.ensures.width ∙ c.loop-node.invariant.width;
  each = each_next (Turn c.args.count) c.loop-node.node (helds c.args.cells.now)
      (helds c.loop-node.cells)
      (helds c.turn.new.cells) c.loop-node.invariant.each c.in_ok-turn.ensures.does;
}

pub returns-clause-does : goal.returns-clause-does
returns-clause-does c =
    each_all (Turn c.args.count) c.loop-node.node c.args.count
    (helds c.args.cells.now) (helds c.loop-node.cells) c.loop-node.invariant.each
    (omega (arith, c.loop-node-test.false, c.loop-node.auto.node-end))
