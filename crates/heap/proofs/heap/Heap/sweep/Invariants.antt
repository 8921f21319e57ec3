use Rattle.std.proofs.Common.{◌≡◌, ◌+◌, ◌-◌, ◌≤◌, length}
use Rattle.model.specs.Collecting.{sweep_some}
use Rattle.heap.specs.Heap.{swept}
use Rattle.heap.proofs.heap.Heap.sweep.Given as goal

-- sweeping what is left now gives the same as sweeping everything at the start
abbrev pub invariant-loop-slot : goal.invariant-loop-slot
invariant-loop-slot l =
    record {
      left : sweep_some l.cycle l.slot (l.cursor + l.count - l.slot)
          (record { heap = l.self.heap; freed = l.freed })
          ≡ swept l.cycle l.cursor l.count l.fn.self.heap;
      slots : length l.self.heap.slots ≡ length l.fn.self.heap.slots;
      few : l.freed + l.cursor ≤ l.slot;
      rest : l.self ≡ record l.fn.self { heap = l.self.heap };
    }
