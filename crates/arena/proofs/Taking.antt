-- The value that is found in an entry is the one in its slot.
use Rattle.std.proofs.Common.{◌≡◌, ℕ, ◌<◌, ◌≤◌, arith, List, length, get_or, map, sym, ap, subst}
use Rattle.std.proofs.Common.{◌∙◌, if◌then◌else◌}
use Rattle.std.proofs.Common.{Option, Some, None, IsSome, Bool, refl}
use Rattle.std.proofs.Math.ListN.{get_or-map}
use Rattle.std.proofs.lemmas.Bool.{eq-eqb}
use Rattle.std.proofs.lemmas.List.{get_or_read, length-map}
use Rattle.arena.specs.Arena.{Arena, get, key_of, emptied, discarded}
use Rattle.arena_slot.specs.Slot.{value_of, generation_in}
use Rattle.arena.specs.Entry.{arena_of, IsLinked}
use Rattle.arena_slot.specs.Entry.{slot_of}
use Rattle.arena.proofs.Chains.{found, count-set}
use Rattle.arena.specs.declared.Key.{Key}
use Rattle.arena_slot.specs.declared.Slot.TheVariants as slot
use Rattle.arena_slot.specs.declared.Entry.{Entry}
use Rattle.arena_slot.specs.declared.Entry.TheVariants.{Free, Occupied, Retired}

-- this entry was read in a slot that was used
pub record IsRead {T : Type 0} (es : List (Entry T)) (k : ℕ) (e : Entry T) : Type 0 where
  pub within : k < length (map slot_of es)
  pub read : e ≡ get_or es k e

module _ {T : Type 0} where
  valued : (e : Entry T) (g : ℕ) → Some g ≡ generation_in (slot_of e)
      → IsSome (value_of (slot_of e) g)
  valued (Free own next) g is = absurd cc
  valued (Occupied own x) g is =
      let same : own ≡ g = cc in
      subst IsSome (sym (ap (λ (b : Bool). if b then Some x else None) (eq-eqb own g same))) refl
  valued Retired g is = absurd cc

  seen : {es : List (Entry T)} {k : ℕ} {e : Entry T} → IsRead es k e
      → get_or (map slot_of es) k slot.Retired ≡ slot_of e
  seen {es} {k} {e} is =
      let near : k < length es = rw length-map at is.within in
      get_or-map slot_of es k Retired
      ∙ ap slot_of (sym (get_or_read es k e near is.read Retired))

  -- the slot has a value, under a key of this generation
  pub there : {es : List (Entry T)} {first vacant len limit : ℕ} {slot : ℕ} {e : Entry T}
      → IsLinked es first vacant len limit → IsRead es slot e → (g : ℕ)
      → Some g ≡ generation_in (slot_of e)
      → IsSome (get (arena_of es first vacant limit) (record { slot = slot; generation = g }))
  there {e = e} linked is g named =
      subst (λ s. IsSome (value_of s g)) (sym (seen is)) (valued e g named)

  -- what is emptied then
  pub goes : {es : List (Entry T)} {first vacant len limit : ℕ} {slot : ℕ} {e : Entry T}
      → IsLinked es first vacant len limit → IsRead es slot e → (o : Option ℕ)
      → o ≡ generation_in (slot_of e)
      → emptied (key_of slot o) (arena_of es first vacant limit)
      ≡ discarded (arena_of es first vacant limit) slot
  goes {es} {first} {vacant} {limit = limit} {slot = slot} linked is o named =
      let a : Arena T = arena_of es first vacant limit in
      ap (λ (x : Option ℕ). emptied (key_of slot x) a)
      (named ∙ sym (ap generation_in (seen is)))

  -- if a value is found, the count of values is at least 1
  pub counted : {es : List (Entry T)} {first vacant len limit : ℕ} (key : Key)
      → IsLinked es first vacant len limit
      → IsSome (get (arena_of es first vacant limit) key) → 1 ≤ len
  counted {es} {first} {vacant} {len} {limit} key linked some =
      let f = found es first vacant limit key some in
      let counts = count-set es key.slot
      (Occupied key.generation f.value) Retired f.within f.read in
      omega (arith, counts, linked.counted)
