-- What is true of a heap after some of its objects were freed, by a sweep or by a reclaim.
use Rattle.std.proofs.Common.{◌≡◌, ◌≢◌, ℕ, zero, suc, ◌+◌, ◌<◌, ◌≤◌, ◌⊎◌, Bool, true, false, inl, inr, ⊎_elim, length, get_or, set, None, ◌==◌, refl, sym, ap, ◌∙◌, subst, get_or-set_same, get_or-set_other, arith}
use Rattle.std.proofs.lemmas.Bool.{cases_eq, cond_both, cond-false}
use Rattle.std.proofs.lemmas.List.{length-set}
use Rattle.ids.specs.declared.limits.TheConstants.{GREATEST_GENERATION}
use Rattle.ids.specs.declared.names.Ref.{Ref}
use Rattle.model.specs.declared.age.Scope.{Scope}
use Rattle.model.specs.State.{Object, Slot, Free, Occupied, Retired, Heap, slot_at}
use Rattle.model.specs.Heaps.{no_letter}
use Rattle.model.specs.Collecting.{is_garbage, generation_in, vacated_slot, vacated, Sweeping, free_one, free_some}
use Rattle.model.specs.Reclaiming.{is_occupied, is_needed, is_lost, seen, reclaiming}
use Rattle.model.specs.References.{IfAny, HoldsOnly}
use Rattle.model.proofs.Slots.{occupied-within}

-- only slots with an object pass the test
abbrev pub IsTest : (ℕ → Slot → Bool) → Type 0
IsTest lost = (k : ℕ) (s : Slot) → lost k s ≡ true → is_occupied s ≡ true

pub garbage-test : (cycle : ℕ) → IsTest (λ _. is_garbage cycle)
garbage-test cycle k (Free g) h = absurd cc
garbage-test cycle k (Occupied g o) h = refl
garbage-test cycle k Retired h = absurd cc

pub lost-test : (needed : ℕ → Bool) → IsTest (is_lost needed)
lost-test needed k (Free g) h = absurd cc
lost-test needed k (Occupied g o) h = refl
lost-test needed k Retired h = absurd cc

pub occupied-object : (s : Slot) → is_occupied s ≡ true
    → (o : Object) × (s ≡ Occupied (generation_in s) o)
occupied-object (Free g) h = absurd cc
occupied-object (Occupied g o) h = (o, refl)
occupied-object Retired h = absurd cc

-- a slot whose object went
pub record Vacates (s t : Slot) : Type 0 where
  pub generation : ℕ
  pub object : Object
  pub was : s ≡ Occupied generation object
  pub is : t ≡ vacated_slot generation

-- A heap after some objects were freed. Each slot is as it was, or its object went.
pub record Freed (h g : Heap) : Type 0 where
  pub registers : g.registers ≡ h.registers
  pub letters : g.letters ≡ h.letters
  pub grey : g.grey ≡ h.grey
  pub width : length g.slots ≡ length h.slots
  pub each : (k : ℕ) → (slot_at g k ≡ slot_at h k) ⊎ Vacates (slot_at h k) (slot_at g k)

pub freed-none : (h : Heap) → Freed h h
freed-none h =
    record { registers = refl; letters = refl; grey = refl; width = refl; each = λ k. inl refl }

-- a slot whose object went has none
pub vacated-empty : (g : ℕ) → is_occupied (vacated_slot g) ≡ false
vacated-empty g =
    cond_both (g == GREATEST_GENERATION) Retired (Free (g + 1)) (λ z. is_occupied z ≡ false)
    (λ _. refl) (λ _. refl)

-- an object that is left is as it was
pub freed-left : {h g : Heap} → Freed h g → (k e : ℕ) (o : Object) → slot_at g k ≡ Occupied e o
    → slot_at h k ≡ Occupied e o
freed-left {h = h} {g = g} f k e o there =
    ⊎_elim {C = slot_at h k ≡ Occupied e o}
    (λ same. sym same ∙ there)
    (λ v.
    absurd (let both : false ≡ true =
    sym (vacated-empty v.generation) ∙ ap is_occupied (sym v.is ∙ there) in cc))
    (f.each k)

pub freed-through : {h f g : Heap} → Freed h f → Freed f g → Freed h g
freed-through {h = h} {f = f} {g = g} first second = record {
  registers = second.registers ∙ first.registers;
  letters = second.letters ∙ first.letters;
  grey = second.grey ∙ first.grey;
  width = second.width ∙ first.width;
  each = λ k.
      ⊎_elim {C = (slot_at g k ≡ slot_at h k) ⊎ Vacates (slot_at h k) (slot_at g k)}
      (λ same.
      ⊎_elim {C = (slot_at g k ≡ slot_at h k) ⊎ Vacates (slot_at h k) (slot_at g k)}
      (λ before. inl (same ∙ before))
      (λ v.
      inr (record {
        generation = v.generation;
        object = v.object;
        was = v.was;
        is = same ∙ v.is;
      }))
      (first.each k))
      (λ v.
      inr (record {
        generation = v.generation;
        object = v.object;
        was = freed-left first k v.generation v.object v.was;
        is = v.is;
      }))
      (second.each k);
}

freed-vacated : (h : Heap) (k : ℕ) (o : Object)
    → slot_at h k ≡ Occupied (generation_in (slot_at h k)) o
    → Freed h (vacated h k (generation_in (slot_at h k)))
freed-vacated h k o there =
    let g : ℕ = generation_in (slot_at h k) in
    record {
      registers = refl;
      letters = refl;
      grey = refl;
      width = length-set h.slots k (vacated_slot g);
      each = λ j.
          ⊎_elim {C = (get_or (set h.slots k (vacated_slot g)) j Retired ≡ slot_at h j)
          ⊎ Vacates (slot_at h j) (get_or (set h.slots k (vacated_slot g)) j Retired)}
          (λ (at : j ≡ k).
          inr (record {
            generation = g;
            object = o;
            was = ap (slot_at h) at ∙ there;
            is = ap (λ (z : ℕ). get_or (set h.slots k (vacated_slot g)) z Retired) at
                ∙ get_or-set_same h.slots k (vacated_slot g) Retired
                (occupied-within h.slots k g o there);
          }))
          (λ (other : j ≢ k).
          inl (get_or-set_other h.slots k j (vacated_slot g) Retired other))
          (cases_eq j k);
    }

pub freed-one : (lost : ℕ → Slot → Bool) → IsTest lost → (k : ℕ) (s : Sweeping)
    → Freed s.heap (free_one lost k s).heap
unfolding free_one
freed-one lost test k s =
    cond_both
    (lost k (slot_at s.heap k))
    (record {
      heap = vacated s.heap k (generation_in (slot_at s.heap k));
      freed = s.freed + 1;
    })
    s
    (λ (z : Sweeping). Freed s.heap z.heap)
    (λ goes.
    let found = occupied-object (slot_at s.heap k) (test k (slot_at s.heap k) goes) in
    freed-vacated s.heap k found.0 found.1)
    (λ _. freed-none s.heap)

pub freed-some : (lost : ℕ → Slot → Bool) → IsTest lost → (k count : ℕ) (s : Sweeping)
    → Freed s.heap (free_some lost k count s).heap
freed-some lost test k zero s = freed-none s.heap
freed-some lost test k (suc n) s =
    freed-through (freed-one lost test k s)
    (freed-some lost test (k + 1) n (free_one lost k s))

-- a block of slots in which nothing passes the test is passed over
pub freed-skip : (lost : ℕ → Slot → Bool) (k m n : ℕ) (s : Sweeping)
    → ((j : ℕ) → k ≤ j → j < k + m → lost j (slot_at s.heap j) ≡ false)
    → free_some lost k (m + n) s ≡ free_some lost (k + m) n s
unfolding free_one
freed-skip lost k zero n s none =
    let at : k ≡ k + 0 = omega arith in
    let count : 0 + n ≡ n = omega arith in
    rw (count) (ap (λ (i : ℕ). free_some lost i n s) at)
freed-skip lost k (suc m) n s none =
    let count : suc m + n ≡ suc (m + n) = omega arith in
    let next : k + 1 + m ≡ k + suc m = omega arith in
    rw (count)
    (ap (free_some lost (k + 1) (m + n))
    (cond-false (lost k (slot_at s.heap k)) _ s (none k (omega arith) (omega arith)))
    ∙ freed-skip lost (k + 1) m n s
    (λ j from to. none j (omega (arith, from)) (omega (arith, to)))
    ∙ ap (λ (i : ℕ). free_some lost i n s) next)

pub freed-reclaiming : (scope : Scope) (own : ℕ) (h : Heap)
    → Freed h (reclaiming scope own h).heap
freed-reclaiming scope own h =
    let needed : ℕ → Bool = is_needed own (seen scope h) in
    freed-some (is_lost needed) (lost-test needed) 0 (length h.slots)
    (record { heap = h; freed = 0 })

-- every reference that is left was there
pub holds-freed : (P : Ref → Type 0) {h g : Heap} → Freed h g → HoldsOnly P h → HoldsOnly P g
holds-freed P {h} {g} f all = record {
  registers = subst (λ z. (k : ℕ) → IfAny P (get_or z k None)) (sym f.registers) all.registers;
  letters = subst (λ z. (k : ℕ) → IfAny P (get_or z k no_letter).reference) (sym f.letters)
      all.letters;
  places = λ k e o j there. all.places k e o j (freed-left f k e o there);
}
