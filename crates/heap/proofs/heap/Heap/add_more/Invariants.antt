use Rattle.std.proofs.Common.{◌≡◌, ◌+◌, ◌-◌, length, drop}
use Rattle.model.specs.Heaps.{with_letters, more_letters}
use Rattle.heap.proofs.heap.Heap.add_more.Given as goal

-- adding what is left now gives the same as adding everything at the start
abbrev pub invariant-loop-reference : goal.invariant-loop-reference
invariant-loop-reference l =
    record {
      more : l.more + l.reference-index ≡ length l.references;
      left : with_letters l.self.heap
          (more_letters l.from l.label (drop l.reference-index l.references))
          ≡ with_letters l.fn.self.heap (more_letters l.from l.label l.references);
      rest : l.self ≡ record l.fn.self {
        heap = l.self.heap;
        letter_room = l.fn.self.letter_room - l.reference-index;
      };
    }
