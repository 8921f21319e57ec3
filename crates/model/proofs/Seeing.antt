-- The heap as a search for young garbage sees it, and as it goes through it: what is found is the
-- same.
use Rattle.std.proofs.Common.{◌≡◌, ℕ, ◌||◌, Bool, true, false, cond, not, List, [], length, Option, refl, sym, ap, ◌∙◌, subst}
use Rattle.std.proofs.lemmas.Bool.{cond-true, not-false, or_right}
use Rattle.std.proofs.lemmas.List.{length-map}
use Rattle.std.proofs.Math.ListN.{get_or-map}
use Rattle.ids.specs.declared.names.Ref.{Ref}
use Rattle.model.specs.declared.age.Age.{Age}
use Rattle.model.specs.declared.age.Age.TheVariants.{Young, Remembered, Old}
use Rattle.model.specs.declared.age.Scope.TheVariants as scope
use Rattle.model.specs.State.{Object, Slot, Free, Occupied, Retired, Heap, slot_at}
use Rattle.model.specs.Heaps.{is_old}
use Rattle.model.specs.Shading.{is_in, filled, roots}
use Rattle.model.specs.Collecting.{generation_in, places_in}
use Rattle.model.specs.Reclaiming.{is_occupied, is_shared, reference_in, is_named, is_needed, is_young, is_recent, seen_young, slot_seen_young, seen}
use Rattle.model.specs.Searching.{slot_sought_young, sought}
use Rattle.model.specs.Cuts.{Among}
use Rattle.model.proofs.Naming.{named-among}
use Rattle.model.proofs.Reclaiming.{Closed, holder-there, needed-closed, needed-least}

-- ---- slots

pub seen-at : (h : Heap) (k : ℕ) → slot_at (seen scope.Young h) k ≡ slot_seen_young (slot_at h k)
seen-at h k = get_or-map slot_seen_young h.slots k Retired

pub sought-at : (h : Heap) (k : ℕ)
    → slot_at (sought scope.Young h) k ≡ slot_sought_young (slot_at h k)
sought-at h k = get_or-map slot_sought_young h.slots k Retired

pub sought-width : (h : Heap) → length (sought scope.Young h).slots ≡ length h.slots
sought-width h = length-map h.slots slot_sought_young

-- an object is gone through if it isn't old
slot-occupied : (s : Slot) → is_occupied (slot_sought_young s) ≡ is_recent s
slot-occupied (Free g) = refl
slot-occupied (Occupied g o) =
    elim (is_old o.age) as (λ (b : Bool).
    is_occupied (cond b (Free g) (Occupied g (seen_young o))) ≡ not b) [
      | true ↦ refl
      | false ↦ refl
    ]
slot-occupied Retired = refl

pub sought-occupied : (h : Heap) (k : ℕ)
    → is_occupied (slot_at (sought scope.Young h) k) ≡ is_recent (slot_at h k)
sought-occupied h k = ap is_occupied (sought-at h k) ∙ slot-occupied (slot_at h k)

-- the slot has an object that isn't old, and that is shared or remembered
abbrev pub is_sought_shared : Slot → Bool
is_sought_shared (Free g) = false
is_sought_shared (Occupied g o) =
    cond (is_old o.age) false (o.shared || not (is_young o.age))
is_sought_shared Retired = false

pub sought-shared : (h : Heap) (k : ℕ)
    → is_shared (slot_at (sought scope.Young h) k) ≡ is_sought_shared (slot_at h k)
sought-shared h k = ap is_shared (sought-at h k) ∙ same (slot_at h k)
  where
    same : (s : Slot) → is_shared (slot_sought_young s) ≡ is_sought_shared s
    same (Free g) = refl
    same (Occupied g o) =
        elim (is_old o.age) as (λ (b : Bool).
        is_shared (cond b (Free g) (Occupied g (seen_young o)))
        ≡ cond b false (o.shared || not (is_young o.age))) [
          | true ↦ refl
          | false ↦ refl
        ]
    same Retired = refl

-- what is old isn't gone through
pub old-unshared : (h : Heap) (k : ℕ) → is_recent (slot_at h k) ≡ false
    → is_shared (slot_at (sought scope.Young h) k) ≡ false
old-unshared h k old = sought-shared h k ∙ none (slot_at h k) old
  where
    none : (s : Slot) → is_recent s ≡ false → is_sought_shared s ≡ false
    none (Free g) old = refl
    none (Occupied g o) old =
        cond-true (is_old o.age) false _ (not-false (is_old o.age) old)
    none Retired old = refl

-- ---- the same is found

pub same-tests : (a b : Bool) → (a ≡ true → b ≡ true) → (b ≡ true → a ≡ true) → a ≡ b
same-tests true b to from = sym (to refl)
same-tests false true to from = from refl
same-tests false false to from = refl

slot-alike : (s : Slot) → is_occupied (slot_sought_young s) ≡ true
    → slot_sought_young s ≡ slot_seen_young s
slot-alike (Free g) there = refl
slot-alike (Occupied g o) there =
    elim (is_old o.age) as (λ (b : Bool).
    is_occupied (cond b (Free g) (Occupied g (seen_young o))) ≡ true
    → cond b (Free g) (Occupied g (seen_young o)) ≡ Occupied g (seen_young o)) [
      | true ↦ λ never. absurd cc
      | false ↦ λ _. refl
    ] there
slot-alike Retired there = refl

slot-generation : (s : Slot)
    → generation_in (slot_sought_young s) ≡ generation_in (slot_seen_young s)
slot-generation (Free g) = refl
slot-generation (Occupied g o) =
    elim (is_old o.age) as (λ (b : Bool).
    generation_in (cond b (Free g) (Occupied g (seen_young o))) ≡ g) [
      | true ↦ refl
      | false ↦ refl
    ]
slot-generation Retired = refl

-- only what is gone through has places that are seen
slot-placed : (s : Slot) (r : Ref) → Among r (filled (places_in (slot_seen_young s)))
    → is_occupied (slot_sought_young s) ≡ true
slot-placed (Free g) r never = absurd never
slot-placed (Occupied g o) r a =
    elim (is_old o.age) as (λ (b : Bool). Among r (filled (cond b [] o.places))
    → is_occupied (cond b (Free g) (Occupied g (seen_young o))) ≡ true) [
      | true ↦ λ never. absurd never
      | false ↦ λ _. refl
    ] a
slot-placed Retired r never = absurd never

module _ (own : ℕ) (h : Heap) where
  abbrev y : Heap
  y = seen scope.Young h

  abbrev z : Heap
  z = sought scope.Young h

  alike : (k : ℕ) → is_occupied (slot_at z k) ≡ true → slot_at z k ≡ slot_at y k
  alike k there =
      sought-at h k
      ∙ slot-alike (slot_at h k) (ap is_occupied (sym (sought-at h k)) ∙ there)
      ∙ sym (seen-at h k)

  there-too : (k : ℕ) → is_occupied (slot_at z k) ≡ true → is_occupied (slot_at y k) ≡ true
  there-too k there = subst (λ (s : Slot). is_occupied s ≡ true) (alike k there) there

  named-alike : (k : ℕ) (os : List (Option Ref)) → is_named own z k os ≡ is_named own y k os
  named-alike k os =
      ap (λ (g : ℕ). is_in (record { node = own; slot = k; generation = g }) (filled os))
      (ap generation_in (sought-at h k) ∙ slot-generation (slot_at h k)
      ∙ ap generation_in (sym (seen-at h k)))

  -- the object whose places are seen is gone through
  holder-sought : (j k : ℕ) → is_named own y k (places_in (slot_at y j)) ≡ true
      → is_occupied (slot_at z j) ≡ true
  holder-sought j k named =
      let a : Among (reference_in own y k) (filled (places_in (slot_at y j))) =
      named-among own y k (places_in (slot_at y j)) named in
      ap is_occupied (sought-at h j)
      ∙ slot-placed (slot_at h j) (reference_in own y k)
      (subst (λ (s : Slot). Among (reference_in own y k) (filled (places_in s))) (seen-at h j) a)

  sought-closed : Closed own z (λ k. is_needed own y k ≡ true)
  sought-closed =
      let closed = needed-closed own y in
      record {
        shared = λ k is. closed.shared k (shared k (slot_at h k) refl is);
        rooted = λ k there named.
            closed.rooted k (there-too k there) (sym (named-alike k (roots h)) ∙ named);
        held = λ j k needed there named.
            closed.held j k needed (there-too k there)
            (sym (named-alike k (places_in (slot_at y j)))
            ∙ ap (λ (s : Slot). is_named own z k (places_in s)) (sym (alike j (holder j k named)))
            ∙ named);
      }
    where
      shared : (k : ℕ) (s : Slot) → slot_at h k ≡ s → is_shared (slot_at z k) ≡ true
          → is_shared (slot_at y k) ≡ true
      shared k s at is =
          subst (λ (s : Slot). is_shared s ≡ true) (alike k (occupied (slot_at z k) is)) is
        where
          occupied : (s : Slot) → is_shared s ≡ true → is_occupied s ≡ true
          occupied (Free g) never = absurd cc
          occupied (Occupied g o) is = refl
          occupied Retired never = absurd cc

      holder : (j k : ℕ) → is_named own z k (places_in (slot_at z j)) ≡ true
          → is_occupied (slot_at z j) ≡ true
      holder j k named = holder-there own z j k named

  seen-closed
      : Closed own y (λ k. is_occupied (slot_at z k) ≡ true → is_needed own z k ≡ true)
  seen-closed =
      let closed = needed-closed own z in
      record {
        shared = λ k is there.
            closed.shared k (subst (λ (s : Slot). is_shared s ≡ true) (sym (alike k there)) is);
        rooted = λ k _ named there. closed.rooted k there (named-alike k (roots h) ∙ named);
        held = λ j k needed _ named there.
            let held = holder-sought j k named in
            closed.held j k (needed held) there
            (named-alike k (places_in (slot_at z j))
            ∙ ap (λ (s : Slot). is_named own y k (places_in s)) (alike j held) ∙ named);
      }

  pub sought-needed : (k : ℕ) → is_occupied (slot_at z k) ≡ true
      → is_needed own z k ≡ is_needed own y k
  sought-needed k there =
      same-tests (is_needed own z k) (is_needed own y k)
      (λ needed. needed-least own z (λ j. is_needed own y j ≡ true) sought-closed k there needed)
      (λ needed.
      needed-least own y (λ j. is_occupied (slot_at z j) ≡ true → is_needed own z j ≡ true)
      seen-closed k (there-too k there) needed there)

  -- what is old is needed
  pub needed-old : (k g : ℕ) (o : Object) → slot_at h k ≡ Occupied g o
      → is_recent (Occupied g o) ≡ false → is_needed own y k ≡ true
  needed-old k g o there old =
      (needed-closed own y).shared k
      (ap is_shared (seen-at h k ∙ ap slot_seen_young there)
      ∙ or_right o.shared (not (is_young o.age)) (old-kept o.age old))
    where
      old-kept : (a : Age) → not (is_old a) ≡ false → not (is_young a) ≡ true
      old-kept Young never = absurd cc
      old-kept Remembered old = refl
      old-kept Old old = refl
