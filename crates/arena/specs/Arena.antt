-- The view of an `Arena` that contracts use.
use Rattle.std.specs.Prelude.{◌≡◌, ◌⊎◌, ℕ, ◌+◌, ◌^◌, ◌<◌, ◌≤◌, List, [], ◌∷◌, ◌++◌, length}
use Rattle.std.specs.Prelude.{Bool, true, false, ◌==◌, ◌&&◌, nat_le, if◌then◌else◌, ⊤}
use Rattle.std.specs.Prelude.{Option, Some, None, count_by, slice_index_or, slice_set}
use Rattle.arena_slot.specs.Slot.{IsFree, IsBorn, is_occupied, value_in, value_of, generation_in, slot_generation}
use Rattle.arena_slot.specs.Slot.{generation_of}
use Rattle.arena_slot.specs.declared.Slot.{Slot}
use Rattle.arena_slot.specs.declared.Slot.TheVariants.{Free, Occupied, Retired}
use Rattle.arena.specs.declared.Key.{Key}
use Rattle.arena.specs.declared.ArenaError.{ArenaError}
use Rattle.arena.specs.declared.ArenaError.TheVariants.{Full, Memory, Shape}
use Rattle.ids.specs.declared.limits.TheConstants.{GREATEST_GENERATION}
use Rattle.arena_slot.specs.declared.TheConstants.{FIRST_GENERATION}

-- the slots that have been used, the free ones in order of use, and how many slots there may be
pub record Arena (T : Type 0) : Type 0 where
  pub slots : List (Slot T)
  pub free : List ℕ
  pub limit : ℕ

-- the number is in the list
abbrev pub Has : List ℕ → ℕ → Type 0
Has [] i = ⊥
Has (x ∷ xs) i = (i ≡ x) ⊎ Has xs i

-- no number is in the list twice
abbrev pub Once : List ℕ → Type 0
Once [] = ⊤
Once (x ∷ xs) = (Has xs x → ⊥) × Once xs

-- the key of a slot and a generation, if there is one
abbrev pub key_of : ℕ → Option ℕ → Option Key
key_of slot None = None
key_of slot (Some g) = Some (record { slot = slot; generation = g })

module _ {T : Type 0} where
  -- the arena of these parts
  abbrev pub plain : List (Slot T) → List ℕ → ℕ → Arena T
  plain slots free limit = record { slots = slots; free = free; limit = limit }

  -- the slot with this number; past the last one it counts as retired
  abbrev pub slot_at : Arena T → ℕ → Slot T
  slot_at a i = slice_index_or a.slots i Retired

  -- what holds of every arena
  pub record IsSound (a : Arena T) : Type 0 where
    pub small : a.limit < 2 ^ 32
    pub within : length a.slots ≤ a.limit
    pub born : (i : ℕ) → IsBorn (slot_at a i)
    -- the list names exactly the free slots, each once
    pub named : (i : ℕ) → Has a.free i → IsFree (slot_at a i)
    pub listed : (i : ℕ) → IsFree (slot_at a i) → Has a.free i
    pub once : Once a.free

  -- the number of values
  abbrev pub occupied_count : Arena T → ℕ
  occupied_count a = count_by is_occupied a.slots

  -- the value in a slot, whatever its generation
  abbrev pub value_at : Arena T → ℕ → Option T
  value_at a slot = value_in (slot_at a slot)

  -- the value under a key
  abbrev pub get : Arena T → Key → Option T
  get a key = value_of (slot_at a key.slot) key.generation

  -- the key of the value in a slot
  abbrev pub key_at : Arena T → ℕ → Option Key
  key_at a slot = key_of slot (generation_in (slot_at a slot))

  -- the generation of the value in a slot, or of the next one if the slot is free
  abbrev pub generation_at : Arena T → ℕ → Option ℕ
  generation_at a slot = slot_generation (slot_at a slot)

  -- the arena after a write through `get_mut`
  abbrev pub with_value : Arena T → Key → T → Arena T
  with_value a key x = record a { slots = slice_set a.slots key.slot (Occupied key.generation x) }

  -- no slot is free, and none is fresh
  abbrev pub is_full : Arena T → Bool
  is_full a = (length a.free == 0) && nat_le a.limit (length a.slots)

  -- why inserting a value failed; only a fresh slot needs memory
  abbrev pub IsErrorOf : Arena T → ArenaError → Type 0
  IsErrorOf a Full = is_full a ≡ true
  IsErrorOf a Memory = (is_full a ≡ false) × (a.free ≡ [])
  IsErrorOf a Shape = ⊥

  abbrev pub first_key : List ℕ → Arena T → Key
  first_key [] a = record { slot = length a.slots; generation = FIRST_GENERATION }
  first_key (k ∷ ks) a = record { slot = k; generation = generation_of (slot_at a k) }

  -- a key that the arena may use: its slot is within the limit, and its generation is at least the
  -- first
  pub record IsKey (a : Arena T) (key : Key) : Type 0 where
    pub slot : key.slot < a.limit
    pub generation : FIRST_GENERATION ≤ key.generation

  -- the key that the next value gets
  abbrev pub next_key : Arena T → Key
  next_key a = first_key a.free a

  abbrev pub filled : List ℕ → Arena T → T → Arena T
  filled [] a x = record a { slots = a.slots ++ Occupied FIRST_GENERATION x ∷ [] }
  filled (k ∷ ks) a x =
      record {
        slots = slice_set a.slots k (Occupied (generation_of (slot_at a k)) x);
        free = ks;
        limit = a.limit;
      }

  -- the arena with another value, under the next key
  abbrev pub inserted : Arena T → T → Arena T
  inserted a x = filled a.free a x

  -- the arena without the value of this key, whose slot is free
  abbrev pub freed : Arena T → Key → Arena T
  freed a key =
      record {
        slots = slice_set a.slots key.slot (Free (key.generation + 1));
        free = key.slot ∷ a.free;
        limit = a.limit;
      }

  -- the arena without the value of this key, whose slot is retired
  abbrev pub retired : Arena T → Key → Arena T
  retired a key = record a { slots = slice_set a.slots key.slot Retired }

  -- the arena without the value of this key, which it has
  abbrev pub vacated : Arena T → Key → Arena T
  vacated a key = if key.generation == GREATEST_GENERATION then retired a key else freed a key

  abbrev pub emptied : Option Key → Arena T → Arena T
  emptied None a = a
  emptied (Some key) a = vacated a key

  -- the arena without the value in this slot, if there is one
  abbrev pub discarded : Arena T → ℕ → Arena T
  discarded a slot = emptied (key_at a slot) a
