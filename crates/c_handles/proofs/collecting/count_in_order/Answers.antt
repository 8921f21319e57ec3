use Rattle.std.proofs.Common.{arith, false, sym, ◌∙◌}
use Rattle.c_handles.proofs.Handles.{look_on, look_same, out_of_order, tested}
use Rattle.c_handles.proofs.collecting.count_in_order.Goals as goal

pub returns-then-not-is_in_place-clause-same : goal.returns-then-not-is_in_place-clause-same
returns-then-not-is_in_place-clause-same c =
    look_same c.loop-node.invariant.looked c.from.result c.index-cells-from.result
    c.is_in_place.new.cell c.is_in_place.ensures.same

pub returns-then-not-is_in_place-clause-counts : goal.returns-then-not-is_in_place-clause-counts
returns-then-not-is_in_place-clause-counts c =
    out_of_order c.in-Ok.count c.args.cells.now (omega (arith, c.in-Ok.ensures))
    (tested c.loop-node.invariant.looked c.from.result c.index-cells-from.result c.from.ensures
    (omega (arith, c.loop-node-test.true, c.in-Ok.ensures)) false
    (sym c.is_in_place.ensures.is ∙ c.if-not-is_in_place.true))

pub loop-node-preserved : goal.loop-node-preserved
loop-node-preserved c = record {
  looked = look_on c.loop-node.invariant.looked c.from.result c.index-cells-from.result
      c.from.ensures (omega (arith, c.loop-node-test.true, c.in-Ok.ensures))
      c.is_in_place.new.cell c.is_in_place.ensures.same
      (sym c.is_in_place.ensures.is ∙ c.if-not-is_in_place.false);
}
