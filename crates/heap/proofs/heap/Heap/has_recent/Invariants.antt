use Rattle.std.proofs.Common.{◌≡◌, ◌-◌, ◌≤◌, length, drop}
use Rattle.std.specs.List.{list_any}
use Rattle.model.specs.Reclaiming.{is_recent}
use Rattle.heap.proofs.heap.Heap.has_recent.Given as goal

-- the slots that are left decide as all the slots do
abbrev pub invariant-loop-slot : goal.invariant-loop-slot
invariant-loop-slot l =
    let all = l.self.heap.slots in
    record {
      count : l.end ≡ length all;
      within : l.slot ≤ l.end;
      left : list_any is_recent (drop l.slot all) ≡ list_any is_recent all;
    }

abbrev pub decreases-loop-slot : goal.decreases-loop-slot
decreases-loop-slot l = l.end - l.slot
