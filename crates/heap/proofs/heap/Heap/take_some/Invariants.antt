use Rattle.std.proofs.Common.{◌≡◌, ◌+◌, ◌-◌, length}
use Rattle.model.specs.Heaps.{letters_taken}
use Rattle.heap.specs.Heap.{KeepsRoom}
use Rattle.heap.proofs.heap.Heap.take_some.Given as goal

-- taking what is left now gives the same as taking everything at the start
abbrev pub invariant-loop-number : goal.invariant-loop-number
invariant-loop-number l =
    record {
      registers : length l.self.heap.registers ≡ length l.fn.self.heap.registers;
      left : letters_taken (l.count - l.number) l.self.heap (l.register + l.number)
          ≡ letters_taken l.count l.fn.self.heap l.register;
      limit : l.self.limit ≡ l.fn.self.limit;
      room : KeepsRoom l.fn.self l.self;
    }
