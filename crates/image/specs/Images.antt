-- The bytes of a node's image.
use Rattle.std.specs.Prelude.{ℕ, ◌==◌, if◌then◌else◌, List, [], map, drop, length}
use Rattle.std.specs.List.{remove}
use Rattle.model.specs.View.{NodeView}
use Rattle.image_parts.specs.Layouts.{IsTooLong, layout_for}
use Rattle.image_parts.specs.Stored.{stored_slot, stored_links, phases_by}
use Rattle.image_parts.specs.Grammar.{Stored, spelling}

-- what the image of a node says; what counts as saved and what is acknowledged isn't in it
abbrev pub stored_by : NodeView → Stored
stored_by n = record {
  head = record {
    nodes = n.local.shape.nodes;
    own = n.local.own;
    registers = n.local.shape.registers;
    slots = n.local.shape.slots;
  };
  phases = phases_by n.local.phases;
  ring = n.local.ring;
  reports = if n.local.own == 0 then drop 1 n.local.phases.reports else [];
  registers = n.local.heap.registers;
  slots = map stored_slot n.local.heap.slots;
  free = n.local.heap.free;
  grey = n.local.heap.grey;
  asked = n.local.asked;
  letters = n.local.heap.letters;
  links = remove (stored_links n.links n.local.got) n.local.own;
}

-- the bytes of the node's image: of version 2, or of version 4 in a wide space
abbrev pub image_of : NodeView → List ℕ
image_of n = spelling (layout_for n.local.shape) (stored_by n)

-- The node isn't saved: its image is too long, and its space is plain. Each node of a wide space is
-- saved.
abbrev pub IsTooLarge : NodeView → Type 0
IsTooLarge n = IsTooLong n.local.shape.wide (length (image_of n))
