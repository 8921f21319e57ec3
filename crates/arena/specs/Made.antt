-- How an `Arena` is made from its slots and its free list. No public clause cites this module.
use Rattle.std.specs.Prelude.{◌≡◌, ℕ, ◌^◌, ◌<◌, ◌≤◌, Bool, false, List, length, map, count_by}
use Rattle.std.specs.Prelude.{slice_index_or, IsTrue, ◌↔◌}
use Rattle.arena.specs.Arena.{Has, Once}
use Rattle.arena_slot.specs.Slot.{IsFree, IsBorn, is_occupied}
use Rattle.arena.specs.Row.{Row}
use Rattle.arena.specs.Entry.{chain}
use Rattle.arena_slot.specs.Entry.{slot_of, unlinked_of, is_unlinked}
use Rattle.arena_slot.specs.declared.Slot.TheVariants as slot
use Rattle.arena_slot.specs.declared.Entry.{Entry}
use Rattle.arena_slot.specs.declared.Entry.TheVariants.{Retired}
use Rattle.arena_slot.specs.declared.TheConstants.{UNLINKED}

module _ {T : Type 0} where
  -- the entries of slots, none of which is linked, with their counts and whether all are born
  pub record AreCounted (es : Row (Entry T)) (occupied vacant : ℕ) (born : Bool) : Type 0 where
    pub unlinked : es.items ≡ map unlinked_of (map slot_of es.items)
    pub occupied_ones : occupied ≡ count_by is_occupied (map slot_of es.items)
    pub vacant_ones : vacant ≡ count_by is_unlinked es.items
    pub all_born : IsTrue born
        ↔ ((i : ℕ) → IsBorn (slice_index_or (map slot_of es.items) i slot.Retired))
    pub within : length es.items ≤ es.capacity
    pub short : es.capacity < 2 ^ 32

  abbrev pub entry_at : List (Entry T) → ℕ → Entry T
  entry_at es i = slice_index_or es i Retired

  -- exactly the slots of this list are linked, in its order
  pub record IsLinking (es : List (Entry T)) (rest : List ℕ) (first : ℕ) : Type 0 where
    pub chained : chain es (length rest) first ≡ rest
    pub named : (i : ℕ) → Has rest i → IsFree (slot_of (entry_at es i))
    pub once : Once rest
    pub marked : (i : ℕ) → Has rest i → is_unlinked (entry_at es i) ≡ false
    pub unmarked : (i : ℕ) → IsFree (slot_of (entry_at es i))
        → is_unlinked (entry_at es i) ≡ false → Has rest i
    pub below : first < UNLINKED
