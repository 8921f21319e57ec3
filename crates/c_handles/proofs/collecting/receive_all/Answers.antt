use Rattle.std.proofs.Common.{arith, ◌∙◌}
use Rattle.std.proofs.lemmas.Result.{err_from_is_err_and}
use Rattle.c_handles.specs.Collecting.{ReceivesFrom, helds}
use Rattle.c_handles.proofs.Moves.{each_all, each_failed, each_next}
use Rattle.c_handles.proofs.collecting.receive_all.Goals as goal

pub returns-in_err-receive-clause-does : goal.returns-in_err-receive-clause-does
returns-in_err-receive-clause-does c =
    let p = err_from_is_err_and c.from_residual.result c.from_residual.ensures.1 in
    rw (p.1, p.2) (each_failed (ReceivesFrom c.args.node) c.loop-from.from c.args.count
    (helds c.args.cells.now) (helds c.loop-from.cells) (helds c.receive.new.cells)
    c.in_err-receive.field-0.0 c.loop-from.invariant.each
    (omega (arith, c.loop-from-test.true, c.loop-from.auto.from-end)) c.in_err-receive.ensures.does)

pub loop-from-preserved : goal.loop-from-preserved
loop-from-preserved c = record {
  width = c.in_ok-receive.ensures.width ∙ c.loop-from.invariant.width;
  each = each_next (ReceivesFrom c.args.node) c.loop-from.from (helds c.args.cells.now)
      (helds c.loop-from.cells)
      (helds c.receive.new.cells) c.loop-from.invariant.each c.in_ok-receive.ensures.does;
}

pub returns-clause-does : goal.returns-clause-does
returns-clause-does c =
    each_all (ReceivesFrom c.args.node) c.loop-from.from c.args.count
    (helds c.args.cells.now) (helds c.loop-from.cells) c.loop-from.invariant.each
    (omega (arith, c.loop-from-test.false, c.loop-from.auto.from-end))
