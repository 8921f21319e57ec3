-- Writes to objects that change nothing.
use Rattle.std.proofs.Common.{◌≡◌, ℕ, Some, None, true, false, cond, eqb, refl, ap}
use Rattle.std.proofs.lemmas.List.{set-get_or}
use Rattle.ids.specs.declared.names.Ref.{Ref}
use Rattle.model.specs.State.{Object, Slot, Free, Occupied, Retired, Heap, slot_at}
use Rattle.model.specs.Heaps.{object_of, object_at, rewritten, with_rewritten}

rewritten-kept : (s : Slot) (g : ℕ) (f : Object → Object)
    → ((o : Object) → object_of s g ≡ Some o → f o ≡ o) → rewritten f g s ≡ s
rewritten-kept (Free own) g f same = refl
rewritten-kept (Occupied own x) g f same =
    elim (eqb own g) as (λ b.
    ((o : Object) → cond b (Some x) None ≡ Some o → f o ≡ o)
    → Occupied own (cond b (f x) x) ≡ Occupied own x) [
      | true ↦ λ same. ap (Occupied own) (same x refl)
      | false ↦ λ same. refl
    ] same
rewritten-kept Retired g f same = refl

-- if there is no such object, or the write leaves it the same, the heap stays the same
pub with_rewritten-kept : (h : Heap) (r : Ref) (f : Object → Object)
    → ((o : Object) → object_at h r ≡ Some o → f o ≡ o) → with_rewritten h r f ≡ h
with_rewritten-kept h r f same =
    rw (rewritten-kept (slot_at h r.slot) r.generation f same, set-get_or h.slots r.slot Retired)
    refl
