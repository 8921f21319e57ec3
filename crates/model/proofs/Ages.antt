-- Objects that become remembered, and objects that become old.
use Rattle.std.proofs.Common.{◌≡◌, ℕ, zero, suc, ◌+◌, ◌≤◌, ◌==◌, cond, false, not, List, [], ◌∷◌, ◌++◌, length, map, take, drop, get_or, Option, None, Some, refl, sym, ap, ◌∙◌, arith, append-nil}
use Rattle.std.proofs.lemmas.Bool.{cond_both}
use Rattle.std.proofs.lemmas.List.{take_all, drop_all}
use Rattle.std.proofs.Math.ListN.{get_or-map}
use Rattle.ids.specs.declared.names.Ref.{Ref}
use Rattle.model.specs.declared.age.Age.{Age}
use Rattle.model.specs.declared.age.Age.TheVariants.{Young, Remembered, Old}
use Rattle.model.specs.State.{Object, Slot, Free, Occupied, Retired, Heap, slot_at}
use Rattle.model.specs.Heaps.{object_at, is_old, is_old_object, with_rewritten, remembering, remember}
use Rattle.model.specs.Reclaiming.{aging, slot_aged, aged, is_recent}
use Rattle.model.specs.Searching.{aged_from, AreOld}

-- ---- what an old object is to name is remembered

-- the heap before the place is written
abbrev pub noted_for : ℕ → Heap → Ref → Option Ref → Heap
noted_for own h r v = cond (is_old_object (object_at h r)) (remember own h v) h

-- it is as it was, or one object is remembered
pub noted-keeps : (P : Heap → Type 0) (own : ℕ) (h : Heap) (r : Ref) (v : Option Ref)
    → ((z : Ref) → P (with_rewritten h z remembering)) → P h → P (noted_for own h r v)
noted-keeps P own h r v each old =
    cond_both (is_old_object (object_at h r)) (remember own h v) h P (λ _. one v) (λ _. old)
  where
    one : (v : Option Ref) → P (remember own h v)
    one None = old
    one (Some z) =
        cond_both (z.node == own) (with_rewritten h z remembering) h P (λ _. each z) (λ _. old)

-- ---- what stays becomes old

pub aged-at : (h : Heap) (k : ℕ) → slot_at (aged h) k ≡ slot_aged (slot_at h k)
aged-at h k = get_or-map slot_aged h.slots k Retired

pub aged-there : (h : Heap) (k e : ℕ) (o : Object) → slot_at h k ≡ Occupied e o
    → slot_at (aged h) k ≡ Occupied e (aging o)
aged-there h k e o there = aged-at h k ∙ ap slot_aged there

aged-from : (s : Slot) (e : ℕ) (y : Object) → slot_aged s ≡ Occupied e y
    → (x : Object) × (s ≡ Occupied e x) × (y ≡ aging x)
aged-from (Free g) e y there = absurd cc
aged-from (Occupied g x) e y there =
    let at : g ≡ e = cc in
    let same : aging x ≡ y = cc in
    (x, ap (λ (n : ℕ). Occupied n x) at, sym same)
aged-from Retired e y there = absurd cc

pub aged-back : (h : Heap) (k e : ℕ) (y : Object) → slot_at (aged h) k ≡ Occupied e y
    → (x : Object) × (slot_at h k ≡ Occupied e x) × (y ≡ aging x)
aged-back h k e y there = aged-from (slot_at h k) e y (sym (aged-at h k) ∙ there)

-- ---- slot after slot becomes old

-- a slot without an object that isn't old stays as it is
slot-aged-old : (s : Slot) → is_recent s ≡ false → slot_aged s ≡ s
slot-aged-old (Free g) old = refl
slot-aged-old (Occupied g o) old =
    ap (λ (a : Age). Occupied g (record o { age = a })) (sym (is-old o.age old))
  where
    is-old : (a : Age) → not (is_old a) ≡ false → a ≡ Old
    is-old Young never = absurd cc
    is-old Remembered never = absurd cc
    is-old Old old = refl
slot-aged-old Retired old = refl

mapped-skip : {A : Type 0} (f : A → A) (xs : List A) (k : ℕ) (d : A)
    → f (get_or xs k d) ≡ get_or xs k d
    → take k xs ++ map f (drop k xs) ≡ take (suc k) xs ++ map f (drop (suc k) xs)
mapped-skip f [] zero d same = refl
mapped-skip f [] (suc k) d same = refl
mapped-skip {A} f (x ∷ xs) zero d same = ap (λ (y : A). y ∷ map f xs) same
mapped-skip {A} f (x ∷ xs) (suc k) d same =
    ap (λ (ys : List A). x ∷ ys) (mapped-skip f xs k d same)

-- a block of old objects is passed over
pub aged-skip : (h : Heap) (k n : ℕ) → AreOld h k n → aged_from k h ≡ aged_from (k + n) h
aged-skip h k zero old =
    let same : k ≡ k + 0 = omega arith in ap (λ (i : ℕ). aged_from i h) same
aged-skip h k (suc n) old =
    let next : suc k + n ≡ k + suc n = omega arith in
    ap (λ (z : List Slot). record h { slots = z })
    (mapped-skip slot_aged h.slots k Retired
    (slot-aged-old (slot_at h k) (old k (omega arith) (omega arith))))
    ∙ aged-skip h (suc k) n
    (λ j from to. old j (omega (arith, from)) (omega (arith, to)))
    ∙ ap (λ (i : ℕ). aged_from i h) next

-- at the end nothing is left to do
pub aged-past : (h : Heap) (k : ℕ) → length h.slots ≤ k → aged_from k h ≡ h
aged-past h k past =
    ap (λ (z : List Slot). record h { slots = z })
    (rw (take_all k h.slots past, drop_all k h.slots past)
    (append-nil h.slots))
