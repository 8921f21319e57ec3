-- The content of slots.
use Rattle.std.proofs.Common.{◌≡◌, ◌≢◌, ℕ, ◌<◌, ◌==◌, true, List, length, get_or, Option, None, Some, refl, sym, ap, ◌∙◌, ⊎_elim}
use Rattle.std.proofs.lemmas.Bool.{cases_lt, cond_both, cond-true, eqb-true, eq-eqb, not_from_true, both_ways}
use Rattle.std.proofs.lemmas.List.{get_or_past}
use Rattle.ids.specs.declared.names.Ref.{Ref}
use Rattle.model.specs.State.{Object, Slot, Free, Occupied, Retired, Heap, slot_at}
use Rattle.model.specs.Heaps.{object_of, object_at}
use Rattle.model.specs.Shading.{is_unmarked}

pub slot-within : (slots : List Slot) (k : ℕ) → (get_or slots k Retired ≡ Retired → ⊥)
    → k < length slots
slot-within slots k there =
    ⊎_elim (λ within. within) (λ past. absurd (there (get_or_past slots k Retired past)))
    (cases_lt k (length slots))

pub occupied-within : (slots : List Slot) (k g : ℕ) (o : Object)
    → get_or slots k Retired ≡ Occupied g o → k < length slots
occupied-within slots k g o there =
    slot-within slots k (λ (e : get_or slots k Retired ≡ Retired).
    absurd (let both : Retired ≡ Occupied g o = sym e ∙ there in cc))

-- the same slot has the same object
pub same-object : (s : Slot) (g : ℕ) (x y : Object) → s ≡ Occupied g x → s ≡ Occupied g y → x ≡ y
same-object s g x y a b = let both : Occupied g x ≡ Occupied g y = sym a ∙ b in cc

object-in : (s : Slot) (g : ℕ) (o : Object) → object_of s g ≡ Some o → s ≡ Occupied g o
object-in (Free f) g o h = absurd cc
object-in (Occupied f x) g o h =
    cond_both (f == g) (Some x) None (λ z. z ≡ Some o → Occupied f x ≡ Occupied g o)
    (λ e is. let n : f ≡ g = eqb-true f g e in let y : x ≡ o = cc in cc)
    (λ _ never. absurd cc) h
object-in Retired g o h = absurd cc

pub object-there : (s : Slot) (g : ℕ) (o : Object) → s ≡ Occupied g o → object_of s g ≡ Some o
object-there s g o h =
    ap (λ (z : Slot). object_of z g) h ∙ cond-true (g == g) (Some o) None (eq-eqb g g refl)

pub found-object : (h : Heap) (r : Ref) (o : Object) → object_at h r ≡ Some o
    → slot_at h r.slot ≡ Occupied r.generation o
found-object h r o found = object-in (slot_at h r.slot) r.generation o found

-- an unmarked object exists
pub unmarked-there : (cycle : ℕ) (o : Option Object) → is_unmarked cycle o ≡ true
    → (x : Object) × (o ≡ Some x) × (x.mark ≢ cycle)
unmarked-there cycle None h = absurd cc
unmarked-there cycle (Some x) h =
    (x, refl, λ (e : x.mark ≡ cycle). both_ways _ (not_from_true _ (eq-eqb x.mark cycle e)) h)
