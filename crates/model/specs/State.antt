-- The state of a node, as plain data ("A node" in docs/RULES.md). Look-ups are total: past the end
-- of a list they give a default, and the default node refuses every event.
use Rattle.std.specs.Prelude.{ℕ, ℤ, Bool, pos, List, [], replicate, Option, None, slice_index_or}
use Rattle.ids.specs.Limits.{Shaped, plain_shape}
use Rattle.ids.specs.declared.names.Ref.{Ref}
use Rattle.msg.specs.declared.body.Colour.{Colour}
use Rattle.msg.specs.declared.body.Colour.TheVariants.{White}
use Rattle.msg.specs.declared.body.Token.{Token}
use Rattle.msg.specs.declared.body.Message.{Message}
use Rattle.model.specs.declared.age.Age.{Age}
use Rattle.model.specs.declared.event.Letter.{Letter}

-- An object: its word, its bytes, its places, the cycle that marked it, and its age. A *shared*
-- object is one that other nodes may know; the others are *private*.
pub record Object : Type 0 where
  pub word : ℕ
  pub bytes : List ℕ
  pub places : List (Option Ref)
  pub mark : ℕ
  pub shared : Bool
  pub age : Age

-- A slot is free, with the generation of its next object; or occupied by an object of a generation;
-- or retired, once its generations are used up.
pub data Slot : Type 0 where
  Free : ℕ → Slot
  Occupied : ℕ → Object → Slot
  Retired : Slot

pub record Heap : Type 0 where
  pub slots : List Slot
  -- the free slots; the first is used next
  pub free : List ℕ
  pub registers : List (Option Ref)
  -- oldest first
  pub letters : List Letter
  -- slots of marked objects whose places are still to be shaded; the last is scanned first
  pub grey : List ℕ

-- how far the node is in its collection cycle; at node 0 also what the others reported
pub record Phases : Type 0 where
  pub cycle : ℕ
  pub ended : ℕ
  pub swept : ℕ
  -- the next slot to be swept
  pub cursor : ℕ
  pub reports : List ℕ

-- the node's part of the ring that detects the end of marking
pub record Ring : Type 0 where
  pub colour : Colour
  -- Messages sent less messages received, of those that count in the current cycle. Texts call it
  -- `old`.
  pub earlier : ℤ
  -- The same for those that the next cycle counts: messages with references and the current cycle's
  -- stamp. Texts call it `cur`.
  pub recent : ℤ
  pub token : Option Token

-- all of a node except what it sent
pub record LocalState : Type 0 where
  pub shape : Shaped
  pub own : ℕ
  pub heap : Heap
  -- references to other nodes' objects that were shaded or vouched for in this cycle
  pub asked : List Ref
  pub phases : Phases
  pub ring : Ring
  -- for each node, how many of its messages were received
  pub got : List ℕ

-- a node, with everything that it ever sent to each node
pub record NodeState : Type 0 where
  pub local : LocalState
  pub sent : List (List Message)

-- look-ups
abbrev pub register_at : Heap → ℕ → Option Ref
register_at h k = slice_index_or h.registers k None

abbrev pub slot_at : Heap → ℕ → Slot
slot_at h k = slice_index_or h.slots k Retired

abbrev pub got_from : LocalState → ℕ → ℕ
got_from p i = slice_index_or p.got i 0

abbrev pub sent_to : NodeState → ℕ → List Message
sent_to s i = slice_index_or s.sent i []

-- a new node
abbrev pub new_heap : Shaped → Heap
new_heap shape = record {
  slots = [];
  free = [];
  registers = replicate shape.registers None;
  letters = [];
  grey = [];
}

abbrev pub new_phases : ℕ → Phases
new_phases nodes = record {
  cycle = 0;
  ended = 0;
  swept = 0;
  cursor = 0;
  reports = replicate nodes 0;
}

abbrev pub new_ring : Ring
new_ring = record { colour = White; earlier = pos 0; recent = pos 0; token = None }

abbrev pub new_local : Shaped → ℕ → LocalState
new_local shape own = record {
  shape = shape;
  own = own;
  heap = new_heap shape;
  asked = [];
  phases = new_phases shape.nodes;
  ring = new_ring;
  got = replicate shape.nodes 0;
}

abbrev pub new_node : Shaped → ℕ → NodeState
new_node shape own = record { local = new_local shape own; sent = replicate shape.nodes [] }

-- what a look-up past the end of a list of nodes gives
abbrev pub no_node : NodeState
no_node = new_node (plain_shape 0 0 0) 1

abbrev pub node_at : List NodeState → ℕ → NodeState
node_at nodes i = slice_index_or nodes i no_node
