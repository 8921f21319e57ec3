use Rattle.std.proofs.Common.{◌≡◌, length, Ok}
use Rattle.c_handles.specs.Collecting.{Each, Turn, helds}
use Rattle.c_handles.proofs.collecting.round.Given as goal

abbrev pub invariant-loop-node : goal.invariant-loop-node
invariant-loop-node l = record {
  width : length l.cells ≡ length l.fn.cells;
  each : Each (Turn l.count) 0 l.node (helds l.fn.cells) (helds l.cells) (Ok tt);
}
