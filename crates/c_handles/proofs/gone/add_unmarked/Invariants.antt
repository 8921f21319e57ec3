use Rattle.model.specs.Collecting.{is_garbage}
use Rattle.c_handles.proofs.Entries.{IsListing}
use Rattle.c_handles.proofs.gone.add_unmarked.Given as goal

abbrev pub invariant-loop-slot : goal.invariant-loop-slot
invariant-loop-slot l =
    IsListing (λ _. is_garbage l.core.local.phases.cycle) l.own l.core.local.heap l.start l.end
    l.slot l.fn.list.items l.list.items
