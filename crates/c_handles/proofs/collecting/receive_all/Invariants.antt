use Rattle.std.proofs.Common.{◌≡◌, length, Ok}
use Rattle.c_handles.specs.Collecting.{Each, ReceivesFrom, helds}
use Rattle.c_handles.proofs.collecting.receive_all.Given as goal

abbrev pub invariant-loop-from : goal.invariant-loop-from
invariant-loop-from l = record {
  width : length l.cells ≡ length l.fn.cells;
  each : Each (ReceivesFrom l.node) 0 l.from (helds l.fn.cells) (helds l.cells) (Ok tt);
}
