-- The heap with these parts.
use Rattle.std.specs.Prelude.{map}
use Rattle.model.specs.State.{Heap}
use Rattle.heap.specs.Heap.{slot_of}
use Rattle.heap.specs.declared.heap.parts.HeapParts.{HeapParts}

abbrev pub heap_given : HeapParts → Heap
heap_given p =
    record {
      slots = map slot_of p.slots.items;
      free = p.free.items;
      registers = p.registers.items;
      letters = p.letters.items;
      grey = p.grey.items;
    }
