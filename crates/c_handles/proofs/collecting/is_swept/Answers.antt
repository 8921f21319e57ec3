use Rattle.std.proofs.Common.{arith, sym, false, ◌∙◌}
use Rattle.c_handles.proofs.Handles.{all_looked, look_on, look_same, tested}
use Rattle.c_handles.proofs.collecting.is_swept.Goals as goal

pub returns-then-not-has_swept-clause-same : goal.returns-then-not-has_swept-clause-same
returns-then-not-has_swept-clause-same c =
    look_same c.loop-node.invariant.looked c.from.result c.index-cells-from.result
    c.has_swept.new.cell c.has_swept.ensures.same

pub returns-then-not-has_swept-clause-says : goal.returns-then-not-has_swept-clause-says
returns-then-not-has_swept-clause-says c =
    tested c.loop-node.invariant.looked c.from.result c.index-cells-from.result c.from.ensures
    (omega (arith, c.loop-node-test.true, c.requires)) false
    (sym c.has_swept.ensures.is ∙ c.if-not-has_swept.true)

pub loop-node-preserved : goal.loop-node-preserved
loop-node-preserved c = record {
  looked = look_on c.loop-node.invariant.looked c.from.result c.index-cells-from.result
      c.from.ensures (omega (arith, c.loop-node-test.true, c.requires)) c.has_swept.new.cell
      c.has_swept.ensures.same (sym c.has_swept.ensures.is ∙ c.if-not-has_swept.false);
}

pub returns-clause-says : goal.returns-clause-says
returns-clause-says c =
    all_looked c.loop-node.invariant.looked
    (omega (arith, c.loop-node-test.false, c.requires))
