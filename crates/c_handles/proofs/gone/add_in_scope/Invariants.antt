use Rattle.std.proofs.Common.{◌-◌, ◌≤◌}
use Rattle.model.specs.Reclaiming.{is_in_scope}
use Rattle.c_handles.proofs.Entries.{IsListing}
use Rattle.c_handles.proofs.gone.add_in_scope.Given as goal

abbrev pub invariant-loop-slot : goal.invariant-loop-slot
invariant-loop-slot l =
    record {
      lists : IsListing (λ _. is_in_scope l.scope) l.own l.core.local.heap 0 l.end l.slot
          l.fn.list.items l.list.items;
      within : l.slot ≤ l.end;
    }

abbrev pub decreases-loop-slot : goal.decreases-loop-slot
decreases-loop-slot l = l.end - l.slot
