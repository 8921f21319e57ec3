use Rattle.std.proofs.Common.{◌≡◌, true, map, take}
use Rattle.std.specs.List.{list_all}
use Rattle.heap.specs.Heap.{slot_of}
use Rattle.node.specs.Parts.{is_slot}
use Rattle.node.proofs.node_core.parts.home.are_slots.Given as goal

abbrev pub invariant-loop-number : goal.invariant-loop-number
invariant-loop-number l =
    list_all (is_slot l.shape l.cycle) (take l.number (map slot_of l.slots.items)) ≡ true
