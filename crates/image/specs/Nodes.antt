-- Which node an image says.
use Rattle.std.specs.Prelude.{◌≡◌, ℕ, ◌+◌, ◌==◌, if◌then◌else◌, List, ◌∷◌, length, map, replicate}
use Rattle.std.specs.List.{insert}
use Rattle.heap.specs.Heap.{slot_of}
use Rattle.model.specs.View.{Link, NodeView, no_link}
use Rattle.image_parts.specs.Layouts.{shape_of}
use Rattle.image_parts.specs.declared.layout.Layout.{Layout}
use Rattle.image_parts.specs.declared.parts.Head.{Head}
use Rattle.image_parts.specs.Links.{StoredLink}
use Rattle.image_parts.specs.Grammar.{Stored, IsImage}
use Rattle.image.specs.Conditions.{IsSaved}

-- all messages count as saved
abbrev pub link_of : StoredLink → Link
link_of l = record {
  base = l.base;
  unacknowledged = l.unacknowledged;
  kept = l.base + length l.unacknowledged;
}

abbrev pub received_of : StoredLink → ℕ
received_of l = l.received

-- a report for each node: 0 for node 0 itself, and at other nodes 0 for all
abbrev pub reports_of : Head → List ℕ → List ℕ
reports_of h told = if h.own == 0 then 0 ∷ told else replicate h.nodes 0

-- for each node how many of its messages were received: 0 for the node itself
abbrev pub got_of : Stored → List ℕ
got_of s = insert (map received_of s.links) s.head.own 0

-- The node that an image of this layout says. All of its messages and numbers count as saved; it
-- sends itself nothing.
abbrev pub node_of : Layout → Stored → NodeView
node_of l s = record {
  local = record {
    shape = shape_of l s.head;
    own = s.head.own;
    heap = record {
      slots = map slot_of s.slots;
      free = s.free;
      registers = s.registers;
      letters = s.letters;
      grey = s.grey;
    };
    asked = s.asked;
    phases = record {
      cycle = s.phases.cycle;
      ended = s.phases.ended;
      swept = s.phases.swept;
      cursor = s.phases.cursor;
      reports = reports_of s.head s.reports;
    };
    ring = s.ring;
    got = got_of s;
  };
  links = insert (map link_of s.links) s.head.own no_link;
  acks = got_of s;
}

-- the bytes spell the node, in this layout
pub record Spells (l : Layout) (bytes : List ℕ) (n : NodeView) : Type 0 where
  pub says : Stored
  pub image : IsImage bytes l says
  pub node : node_of l says ≡ n

-- the bytes are an image of the node: they spell it, and it meets the conditions of a saved node
pub record IsImageOf (bytes : List ℕ) (n : NodeView) : Type 0 where
  pub layout : Layout
  pub spelled : Spells layout bytes n
  pub saved : IsSaved n

-- some bytes are an image of the node
abbrev pub HasImage : NodeView → Type 0
HasImage n = (bytes : List ℕ) × IsImageOf bytes n
