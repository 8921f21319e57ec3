use Rattle.std.proofs.Common.{false}
use Rattle.c_handles.specs.Collecting as space
use Rattle.c_handles.proofs.Handles.{Looked}
use Rattle.c_handles.proofs.collecting.is_unsaved.Given as goal

abbrev pub invariant-loop-node : goal.invariant-loop-node
invariant-loop-node l = record {
  looked : Looked (λ k. space.is_unsaved) false l.fn.cells l.cells l.node;
}
