use Rattle.std.proofs.Common.{◌≡◌, ◌≤◌, ◌+◌, vec_capacity, vec_len}
use Rattle.cell.specs.Moments.{EachCell}
use Rattle.supervisor.specs.Closing.{IsBack}
use Rattle.supervisor.proofs.closing.take_cells.Given as goal

abbrev pub invariant-loop-node : goal.invariant-loop-node
invariant-loop-node g l = record {
  left : vec_len l.shared + l.node ≡ l.nodes;
  made : vec_len l.cells ≡ l.node;
  room : l.nodes ≤ vec_capacity l.cells;
  back : EachCell (IsBack g.W.Naming.wire g.W.Naming.begun) l.cells.items;
}
