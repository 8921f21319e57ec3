use Rattle.std.proofs.Common.{◌≡◌, ◌∙◌, arith, length, subst, sym}
use Rattle.wire.proofs.Rows.{each-push}
use Rattle.cell.specs.Moments.{EachCell}
use Rattle.supervisor.specs.Closing.{IsBack}
use Rattle.supervisor.proofs.Backs.{none-yet, ok-then}
use Rattle.supervisor.proofs.closing.take_cells.Goals as goal

pub loop-node-preserved : goal.loop-node-preserved
loop-node-preserved g c = record {
  left = omega (arith, c.loop-node.invariant.left, c.remove.ensures.len);
  made = omega (arith, c.loop-node.invariant.made, c.push_reserved.ensures.len);
  room = omega (arith, c.loop-node.invariant.room, c.push_reserved.ensures.capacity);
  back = subst (EachCell (IsBack g.W.Naming.wire g.W.Naming.begun))
      (sym c.push_reserved.ensures.items)
      (each-push (IsBack g.W.Naming.wire g.W.Naming.begun) c.loop-node.cells.items
      c.into_cell.result c.loop-node.node
      (let long : length c.loop-node.cells.items ≡ c.loop-node.node =
      omega (arith, c.loop-node.invariant.made, c.loop-node.cells.ok) in long)
      c.loop-node.invariant.back
      (record {
        name = c.into_cell.ensures.name;
        width = c.into_cell.ensures.width;
        begun = c.into_cell.ensures.begun;
      }));
}

pub loop-node-init : goal.loop-node-init
loop-node-init g c = record {
  left = omega (arith, c.requires);
  made = c.reserve.ensures.len ∙ c.new-cells.ensures.len;
  room = let room = ok-then c.reserve.result c.if-is_err.ensures.negation c.reserve.ensures.ok in
      omega (arith, room, c.from.ensures);
  back = none-yet (IsBack g.W.Naming.wire g.W.Naming.begun) c.reserve.new.self.items
      (c.reserve.ensures.items ∙ c.new-cells.ensures.items);
}
