use Rattle.std.proofs.Common.{length}
use Rattle.node_store.specs.Values.{IsAlone}
use Rattle.c_handles.proofs.Batches.{IsLeft}
use Rattle.c_handles.proofs.lone.reopening.redo_all.Given as goal

abbrev pub invariant-loop-rest : goal.invariant-loop-rest
invariant-loop-rest l = IsAlone l.node × IsLeft l.batches l.fn.node l.rest l.node

-- how many bytes are left
abbrev pub decreases-loop-rest : goal.decreases-loop-rest
decreases-loop-rest l = length l.rest
