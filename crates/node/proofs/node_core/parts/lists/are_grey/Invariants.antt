use Rattle.std.proofs.Common.{◌≡◌, length, map}
use Rattle.heap.specs.Heap.{slot_of}
use Rattle.node.proofs.Lists.{Came}
use Rattle.node.proofs.node_core.parts.lists.are_grey.Given as goal

abbrev pub invariant-loop-slot : goal.invariant-loop-slot
invariant-loop-slot l = record {
  size : length l.came.items ≡ length l.slots.items;
  came : Came l.cycle (map slot_of l.slots.items) l.grey l.came.items l.slot-index;
}
