-- The parts that the code reads, as plain data.
use Rattle.image_parts.specs.declared.parts.StoredNode.{StoredNode}
use Rattle.image_parts.specs.Grammar.{Stored}

-- what the parts say, without how they are laid out in memory
abbrev pub stored_of : StoredNode → Stored
stored_of n = record {
  head = n.head;
  phases = n.phases;
  ring = n.ring;
  reports = n.reports.items;
  registers = n.heap.registers.items;
  slots = n.heap.slots.items;
  free = n.heap.free.items;
  grey = n.heap.grey.items;
  asked = n.asked.items;
  letters = n.heap.letters.items;
  links = n.links.items;
}
