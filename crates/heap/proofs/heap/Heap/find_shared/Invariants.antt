use Rattle.std.proofs.Common.{◌≡◌, ℕ, ◌-◌, ◌≤◌, ◌<◌, true, length}
use Rattle.model.specs.Searching.{Begins, is_found, sought}
use Rattle.heap.proofs.heap.Heap.find_shared.Given as goal

-- the shared ones in the slots so far are found, and no others
abbrev pub invariant-loop-slot : goal.invariant-loop-slot
invariant-loop-slot l =
    record {
      count : l.end ≡ length l.self.heap.slots;
      within : l.slot ≤ l.end;
      begins : Begins (sought l.scope l.self.heap) l.slot l.search;
      before : (k : ℕ) → is_found l.search k ≡ true → k < l.slot;
    }

abbrev pub decreases-loop-slot : goal.decreases-loop-slot
decreases-loop-slot l = l.end - l.slot
