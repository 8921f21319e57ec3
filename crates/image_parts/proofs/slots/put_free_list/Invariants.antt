use Rattle.std.proofs.Common.{◌≡◌, ◌++◌}
use Rattle.codec.specs.Formats.{number4}
use Rattle.codec.specs.Writing.{PutsAll}
use Rattle.image_parts.proofs.slots.put_free_list.Given as goal

abbrev pub invariant-loop-slot : goal.invariant-loop-slot
invariant-loop-slot l = record {
  came : l.yielded ++ l.slot-iterator ≡ l.heap.heap.free;
  written : PutsAll number4 l.initial.out l.out l.yielded;
}
