use Rattle.std.proofs.Common.{arith, ◌∙◌}
use Rattle.std.proofs.lemmas.Result.{err_from_is_err_and}
use Rattle.c_handles.specs.Collecting.{SendsTo, helds}
use Rattle.c_handles.proofs.Moves.{each_all, each_failed, each_next}
use Rattle.c_handles.proofs.collecting.send_all.Goals as goal

pub returns-in_err-send-clause-does : goal.returns-in_err-send-clause-does
returns-in_err-send-clause-does c =
    let p = err_from_is_err_and c.from_residual.result c.from_residual.ensures.1 in
    rw (p.1, p.2) (each_failed (SendsTo c.args.node) c.loop-to.to c.args.count
    (helds c.args.cells.now) (helds c.loop-to.cells) (helds c.send.new.cells)
    c.in_err-send.field-0.0 c.loop-to.invariant.each
    (omega (arith, c.loop-to-test.true, c.loop-to.auto.to-end)) c.in_err-send.ensures.does)

pub loop-to-preserved : goal.loop-to-preserved
loop-to-preserved c = record {
  width = c.in_ok-send.ensures.width ∙ c.loop-to.invariant.width;
  each = each_next (SendsTo c.args.node) c.loop-to.to (helds c.args.cells.now)
      (helds c.loop-to.cells)
      (helds c.send.new.cells) c.loop-to.invariant.each c.in_ok-send.ensures.does;
}

pub returns-clause-does : goal.returns-clause-does
returns-clause-does c =
    each_all (SendsTo c.args.node) c.loop-to.to c.args.count
    (helds c.args.cells.now) (helds c.loop-to.cells) c.loop-to.invariant.each
    (omega (arith, c.loop-to-test.false, c.loop-to.auto.to-end))
