-- References in lists, and the slots that they name.
use Rattle.std.proofs.Common.{◌≡◌, ℕ, ◌==◌, true, List, [], ◌∷◌, Option, refl, sym, ap, ◌∙◌, subst, ⊎_elim, inl, inr}
use Rattle.std.proofs.lemmas.Bool.{eq-eqb, eqb-true, and_parts, or_cases, or_left, or_right}
use Rattle.ids.specs.declared.names.Ref.{Ref}
use Rattle.model.specs.State.{Object, Occupied, Slot, Heap, slot_at}
use Rattle.model.specs.Shading.{is_same, is_in, filled}
use Rattle.model.specs.Collecting.{generation_in}
use Rattle.model.specs.Reclaiming.{reference_in, is_named}
use Rattle.model.specs.Cuts.{Among}

pub same-is : (r s : Ref) → is_same r s ≡ true → r ≡ s
same-is r s h =
    let parts = and_parts (r.node == s.node) _ h in
    let rest = and_parts (r.slot == s.slot) (r.generation == s.generation) parts.1 in
    ap (λ (n : ℕ). record { node = n; slot = r.slot; generation = r.generation })
    (eqb-true _ _ parts.0)
    ∙ ap (λ (n : ℕ). record { node = s.node; slot = n; generation = r.generation })
    (eqb-true _ _ rest.0)
    ∙ ap (λ (n : ℕ). record { node = s.node; slot = s.slot; generation = n }) (eqb-true _ _ rest.1)

pub is-same : (r : Ref) → is_same r r ≡ true
is-same r =
    rw (eq-eqb r.node r.node refl, eq-eqb r.slot r.slot refl, eq-eqb r.generation r.generation refl)
    refl

pub in-among : (r : Ref) (rs : List Ref) → is_in r rs ≡ true → Among r rs
in-among r [] h = absurd cc
in-among r (s ∷ rs) h = ⊎_elim {C = Among r (s ∷ rs)}
    (λ same. inl (same-is r s same)) (λ later. inr (in-among r rs later))
    (or_cases (is_same r s) (is_in r rs) h)

pub among-in : (r : Ref) (rs : List Ref) → Among r rs → is_in r rs ≡ true
among-in r [] never = absurd never
among-in r (s ∷ rs) (inl e) =
    or_left (is_same r s) (is_in r rs) (subst (λ (z : Ref). is_same r z ≡ true) e (is-same r))
among-in r (s ∷ rs) (inr later) = or_right (is_same r s) (is_in r rs) (among-in r rs later)

-- an object's own reference is the one that names it
pub reference-there : (own : ℕ) (h : Heap) (r : Ref) (o : Object) → r.node ≡ own
    → slot_at h r.slot ≡ Occupied r.generation o → reference_in own h r.slot ≡ r
reference-there own h r o here there =
    ap (λ (n : ℕ). record {
      node = n;
      slot = r.slot;
      generation = generation_in (slot_at h r.slot);
    }) (sym here)
    ∙ ap (λ (s : Slot). record { node = r.node; slot = r.slot; generation = generation_in s }) there

-- a slot is named by a list that has the reference of its object
pub named-there : (own : ℕ) (h : Heap) (os : List (Option Ref)) (r : Ref) (o : Object)
    → r.node ≡ own → slot_at h r.slot ≡ Occupied r.generation o → Among r (filled os)
    → is_named own h r.slot os ≡ true
named-there own h os r o here there a =
    subst (λ (z : Ref). is_in z (filled os) ≡ true) (sym (reference-there own h r o here there))
    (among-in r (filled os) a)

pub named-among : (own : ℕ) (h : Heap) (k : ℕ) (os : List (Option Ref))
    → is_named own h k os ≡ true → Among (reference_in own h k) (filled os)
named-among own h k os named = in-among (reference_in own h k) (filled os) named
