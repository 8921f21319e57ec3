-- What contracts say about one slot of an arena.
use Rattle.std.specs.Prelude.{ℕ, ◌≤◌, Bool, true, false, ◌==◌, if◌then◌else◌, ⊤}
use Rattle.std.specs.Prelude.{Option, Some, None}
use Rattle.std.specs.Borrow.{Bor}
use Rattle.arena_slot.specs.declared.Slot.{Slot}
use Rattle.arena_slot.specs.declared.Slot.TheVariants.{Free, Occupied, Retired}
use Rattle.arena_slot.specs.declared.TheConstants.{FIRST_GENERATION}

module _ {T : Type 0} where
  abbrev pub IsFree : Slot T → Type 0
  IsFree (Free g) = ⊤
  IsFree (Occupied g x) = ⊥
  IsFree Retired = ⊥

  -- the generation, if there is one, is at least the first
  abbrev pub IsBorn : Slot T → Type 0
  IsBorn (Free g) = FIRST_GENERATION ≤ g
  IsBorn (Occupied g x) = FIRST_GENERATION ≤ g
  IsBorn Retired = ⊤

  abbrev pub is_occupied : Slot T → Bool
  is_occupied (Free g) = false
  is_occupied (Occupied g x) = true
  is_occupied Retired = false

  -- the value in a slot, whatever its generation
  abbrev pub value_in : Slot T → Option T
  value_in (Free g) = None
  value_in (Occupied g x) = Some x
  value_in Retired = None

  -- the value in a slot, if it has this generation
  abbrev pub value_of : Slot T → ℕ → Option T
  value_of (Free g) generation = None
  value_of (Occupied g x) generation = if g == generation then Some x else None
  value_of Retired generation = None

  -- the generation of the value in a slot
  abbrev pub generation_in : Slot T → Option ℕ
  generation_in (Free g) = None
  generation_in (Occupied g x) = Some g
  generation_in Retired = None

  -- the generation of the value in a slot, or of the next one if the slot is free
  abbrev pub slot_generation : Slot T → Option ℕ
  slot_generation (Free g) = Some g
  slot_generation (Occupied g x) = Some g
  slot_generation Retired = None

  -- the slot with its borrowed value
  abbrev pub slot_read : Slot (Bor T) → Slot T
  slot_read (Free g) = Free g
  slot_read (Occupied g x) = Occupied g x.now
  slot_read Retired = Retired

  -- the generation of the next value of a free slot
  abbrev pub generation_of : Slot T → ℕ
  generation_of (Free g) = g
  generation_of (Occupied g x) = g
  generation_of Retired = FIRST_GENERATION
