use Rattle.c_handles.proofs.Leaving.{IsLeaving}
use Rattle.c_handles.proofs.gone.take_out.Given as goal

abbrev pub invariant-loop-place : goal.invariant-loop-place
invariant-loop-place l =
    IsLeaving l.core.local.heap l.before l.left l.place l.fn.list.items l.list.items
