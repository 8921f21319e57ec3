-- How an `Arena` is laid out in memory. No public clause cites this module.
use Rattle.std.specs.Prelude.{◌≡◌, ℕ, zero, suc, List, [], ◌∷◌, map, slice_index_or}
use Rattle.arena.specs.Arena.{Arena, IsSound, occupied_count, plain}
use Rattle.arena_slot.specs.Entry.{slot_of, next_of}
use Rattle.arena_slot.specs.declared.Entry.{Entry}
use Rattle.arena_slot.specs.declared.Entry.TheVariants.{Retired}

module _ {T : Type 0} where
  -- this many slots, beginning with slot k, each followed by the one that it names
  abbrev pub chain : List (Entry T) → ℕ → ℕ → List ℕ
  chain es zero k = []
  chain es (suc n) k = k ∷ chain es n (next_of (slice_index_or es k Retired))

  abbrev pub arena_of : List (Entry T) → ℕ → ℕ → ℕ → Arena T
  arena_of es first vacant limit = plain (map slot_of es) (chain es vacant first) limit

  -- the free slots are linked, and the values are counted
  pub record IsLinked (es : List (Entry T)) (first vacant len limit : ℕ) : Type 0 where
    pub sound : IsSound (arena_of es first vacant limit)
    pub counted : len ≡ occupied_count (arena_of es first vacant limit)
