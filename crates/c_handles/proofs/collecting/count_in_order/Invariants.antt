use Rattle.std.proofs.Common.{true}
use Rattle.c_handles.specs.Collecting as space
use Rattle.c_handles.proofs.Handles.{Looked}
use Rattle.c_handles.proofs.collecting.count_in_order.Given as goal

abbrev pub invariant-loop-node : goal.invariant-loop-node
invariant-loop-node l = record {
  looked : Looked (λ k. space.is_in_place k l.count) true l.fn.cells l.cells l.node;
}
