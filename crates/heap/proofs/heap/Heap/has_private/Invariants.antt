use Rattle.std.proofs.Common.{◌≡◌, length, drop}
use Rattle.std.specs.List.{list_any}
use Rattle.model.specs.Reclaiming.{is_private}
use Rattle.heap.proofs.heap.Heap.has_private.Given as goal

-- the slots that are left decide as all the slots do
abbrev pub invariant-loop-slot : goal.invariant-loop-slot
invariant-loop-slot l =
    let all = l.self.heap.slots in
    record {
      count : l.slot-end ≡ length all;
      left : list_any is_private (drop l.slot all) ≡ list_any is_private all;
    }
