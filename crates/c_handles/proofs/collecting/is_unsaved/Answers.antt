use Rattle.std.proofs.Common.{arith, sym, true, ◌∙◌}
use Rattle.c_handles.proofs.Handles.{all_looked, look_on, look_same, tested}
use Rattle.c_handles.proofs.collecting.is_unsaved.Goals as goal

pub returns-then-has_unsaved-clause-same : goal.returns-then-has_unsaved-clause-same
returns-then-has_unsaved-clause-same c =
    look_same c.loop-node.invariant.looked c.from.result c.index-cells-from.result
    c.has_unsaved.new.cell c.has_unsaved.ensures.same

pub returns-then-has_unsaved-clause-says : goal.returns-then-has_unsaved-clause-says
returns-then-has_unsaved-clause-says c =
    tested c.loop-node.invariant.looked c.from.result c.index-cells-from.result c.from.ensures
    (omega (arith, c.loop-node-test.true, c.requires)) true
    (sym c.has_unsaved.ensures.is ∙ c.if-has_unsaved.true)

pub loop-node-preserved : goal.loop-node-preserved
loop-node-preserved c = record {
  looked = look_on c.loop-node.invariant.looked c.from.result c.index-cells-from.result
      c.from.ensures (omega (arith, c.loop-node-test.true, c.requires)) c.has_unsaved.new.cell
      c.has_unsaved.ensures.same (sym c.has_unsaved.ensures.is ∙ c.if-has_unsaved.false);
}

pub returns-clause-says : goal.returns-clause-says
returns-clause-says c =
    all_looked c.loop-node.invariant.looked
    (omega (arith, c.loop-node-test.false, c.requires))
