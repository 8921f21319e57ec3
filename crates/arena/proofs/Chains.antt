-- What each change of the entries does to the free slots that are linked through them, and to the
-- count of the values.
use Rattle.std.proofs.Common.{◌≡◌, ◌≢◌, ℕ, zero, suc, ◌+◌, ◌-◌, ◌^◌, ◌<◌, ◌≤◌, List, [], ◌∷◌, ◌++◌, map}
use Rattle.std.proofs.Common.{length, get_or, set, cond, count_by, eqb, IsSome, Some, true, false}
use Rattle.std.proofs.Common.{refl, sym, ap, ◌∙◌, inl, inr, arith, true≢false}
use Rattle.std.proofs.lemmas.Bool.{cases_lt, eq-eqb, ne_eqb, or_cases, eqb-true}
use Rattle.std.proofs.lemmas.Bool.Decides.{eqb_tells}
use Rattle.std.proofs.Math.ListN.{get_or-map}
use Rattle.std.proofs.lemmas.List.{map-set, map_push, length-map, get_or_past, get_or_read}
use Rattle.std.proofs.lemmas.List.{get_or-set_same, get_or-set_other}
use Rattle.std.proofs.lemmas.List.Sums.{sum_by-set, sum_by_push, count_by-le-length}
use Rattle.std.proofs.lemmas.Map.Keys.{IsDistinct-cons}
use Rattle.std.proofs.lemmas.Map.Steps.{length-le_from_distinct_below}
use Rattle.std.specs.Prelude.{nat_le}
use Rattle.std.specs.List.{IsDistinct, AllByRecursion, list_any}
use Rattle.arena.specs.Arena.{Arena, Has, Once, IsSound, get}
use Rattle.arena.specs.Arena.{IsKey, is_full, next_key, inserted, vacated, with_value}
use Rattle.arena_slot.specs.Slot.{IsFree, is_occupied, value_of, generation_of}
use Rattle.arena.specs.Entry.{chain, arena_of, IsLinked}
use Rattle.arena_slot.specs.Entry.{slot_of, held_by, next_of, occupied_by}
use Rattle.arena.specs.declared.Key.{Key}
use Rattle.arena_slot.specs.declared.Slot.{Slot}
use Rattle.arena_slot.specs.declared.Slot.TheVariants as slot
use Rattle.arena_slot.specs.declared.Entry.{Entry}
use Rattle.arena_slot.specs.declared.Entry.TheVariants.{Free, Occupied, Retired}
use Rattle.ids.specs.declared.limits.TheConstants.{GREATEST_GENERATION}
use Rattle.arena_slot.specs.declared.TheConstants.{FIRST_GENERATION}
use Rattle.arena.proofs.Sound.{IsTaken, free_within, IsSound-push, IsSound-fill, IsSound-vacate}
use Rattle.arena.proofs.Sound.{IsSound-set}

-- what a search of the list finds is in it
Has-from_any : (xs : List ℕ) (q : ℕ) → list_any (eqb q) xs ≡ true → Has xs q
Has-from_any [] q found = absurd (true≢false (sym found))
Has-from_any (x ∷ xs) q found =
    elim (or_cases _ _ found) [
      | inl here ↦ inl (eqb-true q x here)
      | inr later ↦ inr (Has-from_any xs q later)
    ]

-- a number that isn't in a list differs from each number of it
all_apart : (x : ℕ) (ys : List ℕ) → (Has ys x → ⊥) → AllByRecursion (λ y. eqb x y ≡ false) ys
all_apart x [] off = tt
all_apart x (y ∷ ys) off =
    (ne_eqb x y (λ same. off (inl same)), all_apart x ys (λ has. off (inr has)))

-- the definition of `std` for a list with no number twice
IsDistinct-from_once : (xs : List ℕ) → Once xs → IsDistinct eqb xs
unfolding IsDistinct
IsDistinct-from_once [] once = tt
IsDistinct-from_once (x ∷ xs) once =
    IsDistinct-cons eqb x xs (all_apart x xs once.0) (IsDistinct-from_once xs once.1)

-- a number that isn't at most another one is above it
nat_le_past : (n m : ℕ) → nat_le n m ≡ false → m < n
nat_le_past n m fails = grind arith

module _ {T : Type 0} where
  -- there are no more free slots than slots
  pub length-free : (a : Arena T) → IsSound a → length a.free ≤ length a.slots
  length-free a sound =
      let distinct = IsDistinct-from_once a.free sound.once in
      length-le_from_distinct_below a.free (length a.slots) distinct (λ q found.
      free_within a.slots q (sound.named q (Has-from_any a.free q found)))

  -- this many slots are linked
  pub length-chain : (es : List (Entry T)) (n from : ℕ) → length (chain es n from) ≡ n
  length-chain es zero from = refl
  length-chain es (suc n) from = ap suc (length-chain es n _)

  -- the counts of free and of occupied slots are below the limit
  pub len_fits : {es : List (Entry T)} {first vacant len limit : ℕ}
      → IsLinked es first vacant len limit → len < 2 ^ 32
  len_fits {es} linked =
      let counted = linked.counted in
      let most = count_by-le-length is_occupied (map slot_of es) in
      omega (arith, linked.sound.small, linked.sound.within)

  pub vacant_fits : {es : List (Entry T)} {first vacant len limit : ℕ}
      → IsLinked es first vacant len limit → vacant < 2 ^ 32
  vacant_fits {es} {first} {vacant} {limit = limit} linked =
      let most = length-free (arena_of es first vacant limit) linked.sound in
      let counted = length-chain es vacant first in
      omega (arith, linked.sound.small, linked.sound.within)

  -- a write outside the chain doesn't change it
  pub chain-set : (es : List (Entry T)) (k : ℕ) (e : Entry T) (n from : ℕ)
      → (Has (chain es n from) k → ⊥) → chain (set es k e) n from ≡ chain es n from
  chain-set es k e zero from off = refl
  chain-set es k e (suc n) from off =
      let other : from ≢ k = λ same. off (inl (sym same)) in
      let rest = chain-set es k e n _ (λ has. off (inr has)) in
      rw (get_or-set_other es k from e Retired other) (ap (λ ks. from ∷ ks) rest)

  -- how an entry is seen as a slot
  slot_read : (es : List (Entry T)) (k : ℕ) (e : Entry T) → get_or es k Retired ≡ e
      → get_or (map slot_of es) k slot.Retired ≡ slot_of e
  slot_read es k e read = get_or-map slot_of es k Retired ∙ ap slot_of read

  -- the count of the values after a write
  pub count-set : (es : List (Entry T)) (k : ℕ) (old new : Entry T) → k < length es
      → get_or es k Retired ≡ old
      → count_by is_occupied (map slot_of (set es k new)) + cond (is_occupied (slot_of old)) 1 0
      ≡ count_by is_occupied (map slot_of es) + cond (is_occupied (slot_of new)) 1 0
  count-set es k old new within read =
      let at : get_or (map slot_of es) k slot.Retired ≡ slot_of old = slot_read es k _ read in
      let one = λ (s : Slot T). cond (is_occupied s) 1 0 in
      let inside : k < length (map slot_of es) = rw length-map within in
      let counted = sum_by-set one (map slot_of es) k (slot_of new) slot.Retired inside in
      rw (map-set, ← at) counted

  -- a key that finds a value names an occupied entry of its generation
  pub record IsFound (es : List (Entry T)) (key : Key) : Type 0 where
    pub value : T
    pub within : key.slot < length es
    pub read : get_or es key.slot Retired ≡ Occupied key.generation value

  -- the slot of that key, which is taken
  found_slot : {es : List (Entry T)} {key : Key} (f : IsFound es key)
      → get_or (map slot_of es) key.slot slot.Retired ≡ slot.Occupied key.generation f.value
  found_slot {es} {key} f = slot_read es key.slot _ f.read

  found_taken : {es : List (Entry T)} {key : Key} → IsFound es key
      → IsTaken (map slot_of es) key.slot
  found_taken f = record {
    within = rw length-map f.within;
    apart = λ free. rw (found_slot f) at free;
  }

  -- an entry with a value of this generation
  found_entry : (e : Entry T) (g : ℕ) → IsSome (value_of (slot_of e) g)
      → (x : T) × (e ≡ Occupied g x)
  found_entry (Free own next) g some = absurd (true≢false (sym some))
  found_entry (Occupied own x) g some =
      elim (eqb_tells own g) [
        | inl same ↦ (x, ap (λ h. Occupied h x) same.1)
        | inr differs ↦ absurd (true≢false (sym (rw differs.0 at some)))
      ]
  found_entry Retired g some = absurd (true≢false (sym some))

  -- the entry under a key that finds a value
  pub found : (es : List (Entry T)) (first vacant limit : ℕ) (key : Key)
      → IsSome (get (arena_of es first vacant limit) key) → IsFound es key
  found es first vacant limit key some =
      elim (cases_lt key.slot (length es)) [
        | inl within ↦
            let e = get_or es key.slot Retired in
            let at : get_or (map slot_of es) key.slot slot.Retired ≡ slot_of e =
            slot_read es key.slot _ refl in
            let f = found_entry e key.generation (rw at at some) in
            record { value = f.0; within = within; read = f.1 }
        | inr past ↦
            let at : get_or (map slot_of es) key.slot slot.Retired ≡ slot.Retired =
            get_or_past (map slot_of es) key.slot slot.Retired (rw length-map past) in
            absurd (true≢false (sym (rw at at some)))
      ]

  -- the slot that a free list begins with
  pub record IsFirst (es : List (Entry T)) (first : ℕ) : Type 0 where
    pub generation : ℕ
    pub next : ℕ
    pub within : first < length es
    pub read : get_or es first Retired ≡ Free generation next

  -- an entry that is seen as a free slot
  free_entry : (e : Entry T) → IsFree (slot_of e) → (g : ℕ) × (next : ℕ) × (e ≡ Free g next)
  free_entry (Free g next) free = (g, next, refl)
  free_entry (Occupied g x) free = absurd free
  free_entry Retired free = absurd free

  -- if a slot is free, the list begins with a free one
  first_is_free : (es : List (Entry T)) (first vacant limit : ℕ)
      → IsSound (arena_of es first (suc vacant) limit) → IsFirst es first
  first_is_free es first vacant limit sound =
      let free = sound.named first (inl refl) in
      let inside = free_within (map slot_of es) first free in
      let within : first < length es = omega (arith, length-map es slot_of) in
      let at : get_or (map slot_of es) first slot.Retired ≡ slot_of (get_or es first Retired) =
      slot_read es first _ refl in
      let f = free_entry (get_or es first Retired) (rw at at free) in
      record { generation = f.0; next = f.1; within = within; read = f.2 }

  -- and that slot was used
  pub first_within : {es : List (Entry T)} {first vacant len limit : ℕ}
      → IsLinked es first vacant len limit → 0 < length (chain es vacant first) → first < length es
  first_within {vacant = zero} linked some = absurd (omega arith)
  first_within {es} {first} {vacant = suc vacant} {limit = limit} linked some =
      (first_is_free es first vacant limit linked.sound).within

  -- the first free slot, which was `e`, gets a value
  pub record Fills (es : List (Entry T)) (first vacant len limit : ℕ) (e : Entry T) (x : T)
      : Type 0 where
    pub free : IsFree (slot_of e)
    pub linked :
        let filled = set es first (Occupied (generation_of (slot_of e)) x) in
        IsLinked filled (next_of e) (vacant - 1) (len + 1) limit
    pub key :
        let key : Key = record { slot = first; generation = generation_of (slot_of e) } in
        key ≡ next_key (arena_of es first vacant limit)
    pub within :
        let key : Key = record { slot = first; generation = generation_of (slot_of e) } in
        IsKey (arena_of es first vacant limit) key
    pub done :
        let filled = set es first (Occupied (generation_of (slot_of e)) x) in
        arena_of filled (next_of e) (vacant - 1) limit ≡ inserted (arena_of es first vacant limit) x

  fills_from : {es : List (Entry T)} {first vacant len limit : ℕ}
      → IsLinked es first (suc vacant) len limit → (f : IsFirst es first) (x : T)
      → Fills es first (suc vacant) len limit (Free f.generation f.next) x
  fills_from {es} {first} {vacant} {limit = limit} linked f x =
      let g = f.generation in
      let less : suc vacant - 1 ≡ vacant = omega arith in
      let at : get_or (map slot_of es) first slot.Retired ≡ slot.Free g =
      slot_read es first _ f.read in
      let after : next_of (get_or es first Retired) ≡ f.next = ap next_of f.read in
      let kept : chain (set es first (Occupied g x)) vacant f.next ≡ chain es vacant f.next =
      chain-set es first (Occupied g x) vacant f.next (rw after at linked.sound.once.0) in
      let born : FIRST_GENERATION ≤ g = rw at at (linked.sound.born first) in
      let counted = count-set es first (Free g f.next) (Occupied g x) f.within f.read in
      let before = rw after at linked.sound in
      record {
        free = tt;
        linked = rw less (record {
          sound =
              rw (kept, map-set)
              (IsSound-fill (map slot_of es) first (chain es vacant f.next) limit g x born before);
          counted = omega (arith, linked.counted);
        });
        key = rw at refl;
        within = record {
          slot = omega (arith, f.within, linked.sound.within, length-map es slot_of);
          generation = born;
        };
        done = rw (less, kept, map-set, at, after);
      }

  -- the entry that was read there is the free one
  pub fills : {es : List (Entry T)} {first vacant len limit : ℕ}
      → IsLinked es first vacant len limit → (e : Entry T) (x : T)
      → 0 < length (chain es vacant first) → e ≡ get_or es first e
      → Fills es first vacant len limit e x
  fills {vacant = zero} linked e x some read = absurd (omega arith)
  fills {es} {first} {vacant = suc vacant} {limit = limit} linked e x some read =
      let f = first_is_free es first vacant limit linked.sound in
      let is : e ≡ Free f.generation f.next =
      get_or_read es first e f.within read Retired ∙ f.read in
      rw is (fills_from linked f x)

  -- a value is stored in a slot that was never used
  pub record Adds (es : List (Entry T)) (first vacant len limit : ℕ) (x : T) : Type 0 where
    pub linked :
        let more = es ++ Occupied FIRST_GENERATION x ∷ [] in
        IsLinked more first vacant (len + 1) limit
    pub key :
        let key : Key = record { slot = length es; generation = FIRST_GENERATION } in
        key ≡ next_key (arena_of es first vacant limit)
    pub within :
        let key : Key = record { slot = length es; generation = FIRST_GENERATION } in
        IsKey (arena_of es first vacant limit) key
    pub done :
        let more = es ++ Occupied FIRST_GENERATION x ∷ [] in
        arena_of more first vacant limit ≡ inserted (arena_of es first vacant limit) x

  pub adds : {es : List (Entry T)} {first vacant len limit : ℕ}
      → IsLinked es first vacant len limit → (x : T) → vacant ≤ 0
      → is_full (arena_of es first vacant limit) ≡ false → Adds es first vacant len limit x
  adds {vacant = suc vacant} linked x none room = absurd (omega arith)
  adds {es} {first} {vacant = zero} {len} {limit} linked x none room =
      let slots = map slot_of es in
      let new = slot.Occupied FIRST_GENERATION x in
      let below : length slots < limit = nat_le_past limit (length slots) room in
      let long : length slots ≡ length es = length-map es slot_of in
      let pushed : map slot_of (es ++ Occupied FIRST_GENERATION x ∷ []) ≡ slots ++ new ∷ [] =
      map_push slot_of es (Occupied FIRST_GENERATION x) in
      let counted = sum_by_push (λ (s : Slot T). cond (is_occupied s) 1 0) slots new in
      record {
        linked = record {
          sound =
              rw pushed
              (IsSound-push slots limit FIRST_GENERATION x (omega arith) below linked.sound);
          counted = rw pushed (omega (arith, linked.counted, counted));
        };
        key = rw long refl;
        within = record { slot = omega (arith, below, long); generation = omega arith };
        done = rw pushed refl;
      }

  -- the value of the greatest generation is removed
  pub record Retires (es : List (Entry T)) (first vacant len limit : ℕ) (key : Key) : Type 0 where
    pub linked : IsLinked (set es key.slot Retired) first vacant (len - 1) limit
    pub done : arena_of (set es key.slot Retired) first vacant limit
        ≡ vacated (arena_of es first vacant limit) key

  -- the value of another generation is removed
  pub record Frees (es : List (Entry T)) (first vacant len limit : ℕ) (key : Key) : Type 0 where
    pub linked :
        let emptied = set es key.slot (Free (key.generation + 1) first) in
        IsLinked emptied key.slot (vacant + 1) (len - 1) limit
    pub done :
        let emptied = set es key.slot (Free (key.generation + 1) first) in
        arena_of emptied key.slot (vacant + 1) limit ≡ vacated (arena_of es first vacant limit) key

  -- this entry holds the value under the key
  pub record Holds (es : List (Entry T)) (first vacant limit : ℕ) (key : Key) (e : Entry T)
      : Type 0 where
    pub held : IsSome (held_by e)
    pub generation : generation_of (slot_of e) ≡ key.generation
    pub value : (v : T) → held_by e ≡ Some v → Some v ≡ get (arena_of es first vacant limit) key

  -- the value is written
  pub record LendsOut (es : List (Entry T)) (first vacant len limit : ℕ) (key : Key) (e : Entry T)
      (w : T)
      : Type 0 where
    pub linked : IsLinked (set es key.slot (occupied_by e w)) first vacant len limit
    pub done : arena_of (set es key.slot (occupied_by e w)) first vacant limit
        ≡ with_value (arena_of es first vacant limit) key w
    pub value : (v : T) → e ≡ occupied_by e v → get (arena_of es first vacant limit) key ≡ Some v

-- a change under a key, when the free slots are linked and the values counted
module _ {T : Type 0} {es : List (Entry T)} {first vacant len limit : ℕ}
    (linked : IsLinked es first vacant len limit) (key : Key) where
  -- a write of that entry is outside the chain
  chain_kept : (f : IsFound es key) (e : Entry T)
      → chain (set es key.slot e) vacant first ≡ chain es vacant first
  chain_kept f e =
      chain-set es key.slot e vacant first
      (λ has. (found_taken f).apart (linked.sound.named key.slot has))

  pub retires : IsSome (get (arena_of es first vacant limit) key)
      → key.generation ≡ GREATEST_GENERATION → Retires es first vacant len limit key
  retires some last =
      let f = found es first vacant limit key some in
      let kept = chain_kept f Retired in
      let counted =
      count-set es key.slot (Occupied key.generation f.value) Retired f.within f.read in
      let test = eq-eqb key.generation GREATEST_GENERATION last in
      record {
        linked = record {
          sound =
              rw (kept, map-set)
              (IsSound-set (found_taken f) linked.sound slot.Retired (λ free. free) tt);
          counted = omega (arith, linked.counted);
        };
        done = rw (test, kept, map-set);
      }

  pub frees : IsSome (get (arena_of es first vacant limit) key)
      → key.generation ≢ GREATEST_GENERATION → Frees es first vacant len limit key
  frees some more =
      let f = found es first vacant limit key some in
      let e = Free (key.generation + 1) first in
      let kept = chain_kept f e in
      let written : get_or (set es key.slot e) key.slot Retired ≡ e =
      get_or-set_same es key.slot e Retired f.within in
      let counted = count-set es key.slot (Occupied key.generation f.value) e f.within f.read in
      let test = ne_eqb key.generation GREATEST_GENERATION more in
      let more_by_one : vacant + 1 ≡ suc vacant = omega arith in
      let rest = chain es vacant first in
      let chained : chain (set es key.slot e) (vacant + 1) key.slot ≡ key.slot ∷ rest =
      rw (more_by_one, written, kept) in
      record {
        linked = record {
          sound =
              rw (chained, map-set)
              (IsSound-vacate (found_taken f) linked.sound (key.generation + 1) (omega arith));
          counted = omega (arith, linked.counted);
        };
        done = rw (test, chained, map-set);
      }

  -- the entry that was read there holds the value
  pub holds : (e : Entry T) → IsSome (get (arena_of es first vacant limit) key)
      → e ≡ get_or es key.slot e → Holds es first vacant limit key e
  holds e some read =
      let f = found es first vacant limit key some in
      let is : e ≡ Occupied key.generation f.value =
      get_or_read es key.slot e f.within read Retired ∙ f.read in
      let at = found_slot f in
      let test = eq-eqb key.generation key.generation refl in
      let has : get (arena_of es first vacant limit) key ≡ Some f.value = rw (at, test) refl in
      rw is (record { held = refl; generation = refl; value = λ v same. sym (has ∙ same) })

  lends_from : (f : IsFound es key) (w : T)
      → LendsOut es first vacant len limit key (Occupied key.generation f.value) w
  lends_from f w =
      let e = Occupied key.generation w in
      let kept = chain_kept f e in
      let at = found_slot f in
      let born : FIRST_GENERATION ≤ key.generation = rw at at (linked.sound.born key.slot) in
      let counted = count-set es key.slot (Occupied key.generation f.value) e f.within f.read in
      let test = eq-eqb key.generation key.generation refl in
      record {
        linked = record {
          sound =
              rw (kept, map-set)
              (IsSound-set (found_taken f) linked.sound (slot.Occupied key.generation w)
              (λ free. free)
              born);
          counted = omega (arith, linked.counted);
        };
        done = rw (kept, map-set);
        value = λ v same. rw (at, test) (cc);
      }

  -- the entry that was read there is the one under the key
  pub lends : (e : Entry T) (w : T) → IsSome (get (arena_of es first vacant limit) key)
      → e ≡ get_or es key.slot e → LendsOut es first vacant len limit key e w
  lends e w some read =
      let f = found es first vacant limit key some in
      let is : e ≡ Occupied key.generation f.value =
      get_or_read es key.slot e f.within read Retired ∙ f.read in
      rw is (lends_from f w)
