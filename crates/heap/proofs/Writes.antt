-- The heap after a write to an object through the arena.
use Rattle.std.proofs.Common.{◌≡◌, ℕ, List, [], ◌∷◌, length, map, set, get_or, Option, Some, None}
use Rattle.std.proofs.Common.{OnErr, Bool, true, false, nat_lt, refl, sym, ap, ◌∙◌, inl, inr}
use Rattle.std.proofs.lemmas.Bool.{eq-eqb, ltb-false}
use Rattle.std.proofs.lemmas.Bool.Decides.{eqb_tells}
use Rattle.std.proofs.lemmas.List.{map-set}
use Rattle.std.proofs.Math.ListN.{get_or-map}
use Rattle.std.proofs.Math.Seq.{set_out}
use Rattle.ids.specs.declared.names.Ref.{Ref}
use Rattle.ids.specs.declared.refusal.Refusal.{Refusal}
use Rattle.ids.specs.declared.refusal.Refusal.TheVariants.{NoField}
use Rattle.arena.specs.Arena.{get, with_value}
use Rattle.arena_slot.specs.Slot.{value_of}
use Rattle.arena.specs.declared.Key.{Key}
use Rattle.arena_slot.specs.declared.Slot.{Slot}
use Rattle.arena_slot.specs.declared.Slot.TheVariants.{Free, Occupied, Retired}
use Rattle.model.specs.Checks.{guarded}
use Rattle.model.specs.State.{Object, Heap, slot_at}
use Rattle.model.specs.State as state
use Rattle.model.specs.Heaps.{object_of, object_at, rewritten, with_rewritten, placing}
use Rattle.model.proofs.IdleWrites.{with_rewritten-kept}
use Rattle.heap.specs.Heap.{HeapView}
use Rattle.heap.specs.Heap.{slot_of}
use Rattle.heap.specs.Stored.{view_of}
use Rattle.heap.specs.declared.heap.Heap.TheInside.{Inside}

-- the key under which the arena keeps the object of this reference
abbrev pub key_of : Ref → Key
key_of r = record { slot = r.slot; generation = r.generation }

pub found : (s : Slot Object) (g : ℕ) (o : Object) → value_of s g ≡ Some o → s ≡ Occupied g o
found (Free own) g o h = absurd cc
found Retired g o h = absurd cc
found (Occupied own x) g o h =
    elim (eqb_tells own g) [
      | inl same ↦ let is : Some x ≡ Some o = rw same.0 at h in cc
      | inr differs ↦ let is : None ≡ Some o = rw differs.0 at h in absurd cc
    ]

rewritten-slots : (slots : List (Slot Object)) (i g : ℕ) (f : Object → Object) (o : Object)
    → value_of (get_or slots i Retired) g ≡ Some o
    → map slot_of (set slots i (Occupied g (f o)))
    ≡ set (map slot_of slots) i (rewritten f g (get_or (map slot_of slots) i state.Retired))
rewritten-slots slots i g f o there =
    let read = get_or-map slot_of slots i Retired in
    let is = found (get_or slots i Retired) g o there in
    rw (map-set slot_of slots i (Occupied g (f o)), read, is, eq-eqb g g refl) refl

-- the heap with other slots
abbrev with_slots : HeapView → List state.Slot → HeapView
with_slots v slots = record v { heap = record v.heap { slots = slots } }

-- the arena has this object, under the key of the reference
pub record IsStored (h : Inside) (r : Ref) (key : Key) (o : Object) : Type 0 where
  pub name : key ≡ key_of r
  pub there : Some o ≡ get h.objects key

-- the object under a key is replaced
pub rewritten-stored : (h : Inside) (r : Ref) (key : Key) (f : Object → Object) (o x : Object)
    → IsStored h r key o → x ≡ f o
    → view_of (record h { objects = with_value h.objects key x })
    ≡ record (view_of h) { heap = with_rewritten (view_of h).heap r f }
rewritten-stored h r key f o x stored made =
    let name = stored.name in
    let found : get h.objects (key_of r) ≡ Some o = sym (rw name at stored.there) in
    let slots = rewritten-slots h.objects.slots r.slot r.generation f o found in
    rw (name, made) (ap (with_slots (view_of h)) slots)

-- the object of a reference, if it is stored
object_of-stored : (s : Slot Object) (g : ℕ) → object_of (slot_of s) g ≡ value_of s g
object_of-stored (Free own) g = refl
object_of-stored (Occupied own x) g = refl
object_of-stored Retired g = refl

pub object_at-stored : (h : Inside) (r : Ref) (key : Key)
    → key ≡ key_of r → object_at (view_of h).heap r ≡ get h.objects key
object_at-stored h r key name =
    let s : Slot Object = get_or h.objects.slots r.slot Retired in
    rw (name, get_or-map slot_of h.objects.slots r.slot Retired) (object_of-stored s r.generation)

-- there is no object under the key
pub absent-stored : (h : Inside) (r : Ref) (key : Key) (f : Object → Object)
    → key ≡ key_of r → None ≡ get h.objects key
    → view_of h ≡ record (view_of h) { heap = with_rewritten (view_of h).heap r f }
absent-stored h r key f name absent =
    let none : object_at (view_of h).heap r ≡ None = object_at-stored h r key name ∙ sym absent in
    let kept = with_rewritten-kept (view_of h).heap r f (λ o there. absurd cc) in
    ap (λ heap. record (view_of h) { heap = heap }) (sym kept)

-- a claim for the case that a test fails
on_refused : (b : Bool) (e : Refusal) (P : Type 0) → (b ≡ false → P)
    → OnErr (guarded {A = Unit {0}} ((b, e) ∷ []) tt) P
on_refused true e P p = tt
on_refused false e P p = p refl

-- if the object has no such place, a write to it changes nothing
pub placeless-stored : (h : Inside) (r : Ref) (key : Key) (o : Object) (place : ℕ) (v : Option Ref)
    → IsStored h r key o
    → OnErr (guarded {A = Unit {0}} ((nat_lt place (length o.places), NoField) ∷ []) tt)
    (record (view_of h) { heap = with_rewritten (view_of h).heap r (placing place v) }
    ≡ view_of h)
placeless-stored h r key o place v stored =
    let there = object_at-stored h r key stored.name ∙ sym stored.there in
    let is : object_at (view_of h).heap r ≡ Some o = there in
    on_refused (nat_lt place (length o.places)) NoField _ (λ past.
    let kept = with_rewritten-kept (view_of h).heap r (placing place v) (λ x at.
    let same : o ≡ x = cc in
    rw (← same)
    (ap (λ (vs : List (Option Ref)). record o { places = vs })
    (set_out o.places place v (ltb-false place (length o.places) past)))) in
    ap (λ heap. record (view_of h) { heap = heap }) kept)
