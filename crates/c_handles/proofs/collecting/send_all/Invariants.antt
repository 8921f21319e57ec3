use Rattle.std.proofs.Common.{◌≡◌, length, Ok}
use Rattle.c_handles.specs.Collecting.{Each, SendsTo, helds}
use Rattle.c_handles.proofs.collecting.send_all.Given as goal

abbrev pub invariant-loop-to : goal.invariant-loop-to
invariant-loop-to l = record {
  width : length l.cells ≡ length l.fn.cells;
  each : Each (SendsTo l.node) 0 l.to (helds l.fn.cells) (helds l.cells) (Ok tt);
}
