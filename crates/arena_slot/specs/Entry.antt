-- How one slot lies in memory.
use Rattle.std.specs.Prelude.{ℕ, Bool, false, ◌==◌, Option, Some, None}
use Rattle.arena_slot.specs.declared.Slot.{Slot}
use Rattle.arena_slot.specs.declared.Slot.TheVariants as slot
use Rattle.arena_slot.specs.declared.Entry.{Entry}
use Rattle.arena_slot.specs.declared.Entry.TheVariants.{Free, Occupied, Retired}
use Rattle.arena_slot.specs.declared.TheConstants.{UNLINKED}

module _ {T : Type 0} where
  abbrev pub slot_of : Entry T → Slot T
  slot_of (Free g next) = slot.Free g
  slot_of (Occupied g x) = slot.Occupied g x
  slot_of Retired = slot.Retired

  -- the value, whatever its generation
  abbrev pub held_by : Entry T → Option T
  held_by (Free g next) = None
  held_by (Occupied g x) = Some x
  held_by Retired = None

  -- the free slot that is used after a free one
  abbrev pub next_of : Entry T → ℕ
  next_of (Free g next) = next
  next_of (Occupied g x) = 0
  next_of Retired = 0

  -- the entry with another value
  abbrev pub occupied_by : Entry T → T → Entry T
  occupied_by (Free g next) x = Free g next
  occupied_by (Occupied g y) x = Occupied g x
  occupied_by Retired x = Retired

  -- the entry of a slot that isn't linked yet
  abbrev pub unlinked_of : Slot T → Entry T
  unlinked_of (slot.Free g) = Free g UNLINKED
  unlinked_of (slot.Occupied g x) = Occupied g x
  unlinked_of slot.Retired = Retired

  abbrev pub is_unlinked : Entry T → Bool
  is_unlinked (Free g next) = next == UNLINKED
  is_unlinked (Occupied g x) = false
  is_unlinked Retired = false

  -- the entry, naming this slot as the next one if it is free
  abbrev pub linked_to : Entry T → ℕ → Entry T
  linked_to (Free g old) next = Free g next
  linked_to (Occupied g x) next = Occupied g x
  linked_to Retired next = Retired
