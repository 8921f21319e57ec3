-- The parts of a saved node, and what must hold of them so that a node can be made of them ("Saved
-- nodes" in docs/RULES.md).
use Rattle.std.specs.Prelude.{◌≡◌, ◌≢◌, ℕ, ◌<◌, ◌≤◌, Bool, true, false, ◌&&◌, ◌||◌, ◌==◌, not}
use Rattle.std.specs.Prelude.{nat_lt, nat_le, List, [], ◌∷◌, length, take, Option, Some, None, is_some}
use Rattle.std.specs.Prelude.{slice_index_or}
use Rattle.std.specs.List.{list_all}
use Rattle.ids.specs.Limits.{Shaped, IsShape}
use Rattle.ids.specs.declared.names.Ref.{Ref}
use Rattle.ids.specs.declared.limits.TheConstants.{GREATEST_LETTER}
use Rattle.msg.specs.Limits.{fetch_fits}
use Rattle.msg.specs.declared.body.Body.{Body}
use Rattle.msg.specs.declared.body.Body.TheVariants.{Begin, Token, Mark, Give, Put, Get, Post, Fetch, Ended, Swept}
use Rattle.msg.specs.declared.body.Message.{Message}
use Rattle.model.specs.declared.event.Letter.{Letter}
use Rattle.model.specs.State.{Object, Slot, Free, Occupied, Retired, LocalState}
use Rattle.model.specs.Heaps.{is_old}
use Rattle.model.specs.Shading.{is_calm, is_in}
use Rattle.model.specs.Steps.{is_within, mentioned}
use Rattle.model.specs.View.{Link, NodeView, used}
use Rattle.cycles.specs.Phases.{IsPhases}
use Rattle.heap.specs.Parts.{heap_given}
use Rattle.link.specs.Links.{LinksView, link_at, got_at}
use Rattle.link.specs.Parts.{links_given}
use Rattle.node.specs.Invariant.{links_of}
use Rattle.node.specs.declared.node_core.parts.NodeParts.{NodeParts}

-- all of the node except its links
abbrev pub local_given : NodeParts → LocalState
local_given p =
    record {
      shape = p.shape;
      own = p.own;
      heap = heap_given p.heap;
      asked = p.asked.items;
      phases = p.phases;
      ring = p.ring;
      got = (links_given p.links.items).got;
    }

-- the node with these parts, in which everything on its links counts as held by a saved state
abbrev pub node_given : NodeParts → NodeView
node_given p =
    record {
      local = local_given p;
      links = (links_given p.links.items).links;
      acks = (links_given p.links.items).acks;
    }

-- a reference within the shape
abbrev pub is_named : Shaped → Ref → Bool
is_named shape r = is_within shape r && nat_le 1 r.generation

abbrev pub is_any_named : Shaped → Option Ref → Bool
is_any_named shape None = true
is_any_named shape (Some r) = is_named shape r

-- a node of the shape other than this one
abbrev pub is_neighbour : Shaped → ℕ → ℕ → Bool
is_neighbour shape own i = nat_lt i shape.nodes && not (i == own)

-- a reference to another node's object
abbrev pub is_foreign : Shaped → ℕ → Ref → Bool
is_foreign shape own r = is_named shape r && not (r.node == own)

-- in a plain space a letter has at most one reference, and no bytes
abbrev pub is_modest : Shaped → Letter → Bool
is_modest shape l = shape.wide || (l.more == 0 && length l.bytes == 0)

-- a letter that came from another node
abbrev pub is_letter : Shaped → ℕ → Letter → Bool
is_letter shape own l =
    is_neighbour shape own l.from && (is_modest shape l && is_any_named shape l.reference)

-- after each letter as many follow as it says
abbrev pub are_whole : List Letter → Bool
are_whole [] = true
are_whole (l ∷ ls) = nat_le l.more (length ls) && are_whole ls

-- an object of a node in this cycle; in a plain space it has no bytes, and is shared and old
abbrev pub is_object : Shaped → ℕ → Object → Bool
is_object shape cycle o =
    nat_le o.mark cycle
    && ((shape.wide || (o.shared && is_old o.age))
    && (nat_le (length o.places) shape.places
    && (nat_le (length o.bytes) shape.bytes && list_all (is_any_named shape) o.places)))

-- A slot of a node in this cycle. A free slot has held an object, so its next generation is at
-- least 2.
abbrev pub is_slot : Shaped → ℕ → Slot → Bool
is_slot shape cycle (Free g) = nat_le 2 g
is_slot shape cycle (Occupied g o) = is_object shape cycle o
is_slot shape cycle Retired = true

-- An object of the space may have the place that the body names, if it names one. If it is a letter
-- or asks for one, the space has letters of that size.
abbrev pub is_placed : Shaped → Body → Bool
is_placed shape Begin = true
is_placed shape (Token token) = true
is_placed shape (Mark target) = true
is_placed shape (Give label reference) = true
is_placed shape (Put target place reference) = nat_lt place shape.places
is_placed shape (Get target place label) = nat_lt place shape.places
is_placed shape (Post label references bytes) =
    shape.wide && (nat_le (length references) shape.places && nat_le (length bytes) GREATEST_LETTER)
is_placed shape (Fetch target label offset count) = shape.wide && fetch_fits count
is_placed shape Ended = true
is_placed shape Swept = true

-- a message of a node in this cycle
abbrev pub is_message : Shaped → ℕ → Message → Bool
is_message shape cycle x =
    nat_le x.stamp cycle && (list_all (is_named shape) (mentioned x.body) && is_placed shape x.body)

abbrev pub is_marked : ℕ → Slot → Bool
is_marked cycle (Free g) = false
is_marked cycle (Occupied g o) = o.mark == cycle
is_marked cycle Retired = false

abbrev pub is_marked_in : ℕ → List Slot → ℕ → Bool
is_marked_in cycle slots slot = is_marked cycle (slice_index_or slots slot Retired)

-- the grey list names objects that the cycle has marked, each once
pub record AreGreyIn (cycle : ℕ) (slots : List Slot) (grey : List ℕ) : Type 0 where
  pub marked : (i : ℕ) → i < length grey
      → is_marked_in cycle slots (slice_index_or grey i 0) ≡ true
  pub once : (j : ℕ) → j < length grey → (i : ℕ) → i < j
      → slice_index_or grey i 0 ≢ slice_index_or grey j 0

-- the references asked for are other nodes', each once
pub record AreAsked (shape : Shaped) (own : ℕ) (rs : List Ref) : Type 0 where
  pub foreign : list_all (is_foreign shape own) rs ≡ true
  -- none is among those before it
  pub once : (j : ℕ) → j < length rs → (d : Ref)
      → is_in (slice_index_or rs j d) (take j rs) ≡ false

-- A report that may be there. Only node 0 gets reports, and none of itself.
abbrev pub is_report : ℕ → ℕ → ℕ → Bool
is_report own i report = (report == 0) || ((own == 0) && nat_lt 0 i)

pub record AreHeard (own nodes : ℕ) (reports : List ℕ) : Type 0 where
  pub count : length reports ≡ nodes
  pub each : (i : ℕ) → i < length reports → is_report own i (slice_index_or reports i 0) ≡ true

-- what the slots, the registers and the letters hold
pub record HoldsNamed (p : LocalState) : Type 0 where
  pub slots : list_all (is_slot p.shape p.phases.cycle) p.heap.slots ≡ true
  pub registers : list_all (is_any_named p.shape) p.heap.registers ≡ true
  pub letters : list_all (is_letter p.shape p.own) p.heap.letters ≡ true
  pub whole : are_whole p.heap.letters ≡ true

-- the part of a node that can be tested without memory
pub record IsAtHome (p : LocalState) : Type 0 where
  pub own : p.own < p.shape.nodes
  pub holds : HoldsNamed p
  pub cursor : p.phases.cursor ≤ length p.heap.slots
  pub reports : AreHeard p.own p.shape.nodes p.phases.reports
  -- once marking has ended, nothing is grey and no token is held
  pub calm : p.phases.cycle ≤ p.phases.ended → is_calm p.heap ≡ true
  pub token : p.phases.cycle ≤ p.phases.ended → is_some p.ring.token ≡ false

-- a node in this cycle may have sent the messages of the link
abbrev pub are_messages : Shaped → ℕ → Link → Bool
are_messages shape cycle l = list_all (is_message shape cycle) l.unacknowledged

-- the links to all nodes of the shape; the link to the node itself is empty
pub record AreAtEnds (shape : Shaped) (own cycle : ℕ) (v : LinksView) : Type 0 where
  pub width : length v.links ≡ shape.nodes
  pub messages : list_all (are_messages shape cycle) v.links ≡ true
  pub unsent : used (link_at v own) ≡ 0
  pub untaken : got_at v own ≡ 0

-- what is tested of the parts of a saved node, other than its free slots, its numbers and balances
pub record AreParts (n : NodeView) : Type 0 where
  pub shape : IsShape n.local.shape
  pub phases : IsPhases n.local.phases
  pub home : IsAtHome n.local
  pub grey : AreGreyIn n.local.phases.cycle n.local.heap.slots n.local.heap.grey
  pub asked : AreAsked n.local.shape n.local.own n.local.asked
  pub ends : AreAtEnds n.local.shape n.local.own n.local.phases.cycle (links_of n)
