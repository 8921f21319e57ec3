use Rattle.std.proofs.Common.{◌≡◌, ℕ, ◌<◌, true, length, map, get_or}
use Rattle.model.specs.State.{Retired}
use Rattle.model.specs.Reclaiming.{is_shared}
use Rattle.heap.specs.Blocks.{is_flagged}
use Rattle.heap.specs.Heap.{slot_of}
use Rattle.heap.proofs.heap.parts.shared_blocks.Given as goal

-- the blocks of the slots so far are flagged
abbrev pub invariant-loop-slot : goal.invariant-loop-slot
invariant-loop-slot l =
    record {
      count : l.slot-end ≡ length l.objects.slots;
      noted : (k : ℕ) → k < l.slot
          → is_shared (get_or (map slot_of l.objects.slots) k Retired) ≡ true
          → is_flagged l.blocks k ≡ true;
    }
