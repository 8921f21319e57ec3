-- The invariant after one change of a node's heap: registers and letters are written, an object is
-- rewritten or made, or a grey object has been scanned.
use Rattle.std.proofs.Common.{◌≡◌, ℕ, ◌<◌, ◌≤◌, ◌⊎◌, Bool, true, List, [], length, get_or, Option, None, refl, sym, ap, ◌∙◌, subst, ⊎_elim, inl, inr, arith, le_refl}
use Rattle.ids.specs.Limits.{Shaped}
use Rattle.ids.specs.declared.names.Ref.{Ref}
use Rattle.model.specs.declared.event.Letter.{Letter}
use Rattle.model.specs.State.{Object, Occupied, Heap, NodeState, slot_at}
use Rattle.model.specs.Heaps.{with_object, new_object, has_slot, with_rewritten}
use Rattle.model.specs.References.{IfAny}
use Rattle.model.specs.Cuts.{Cut, Among, Becomes}
use Rattle.laws.proofs.Invariant.{Tidy, RootsAll, PlacesAll, Inv, cycle_of}
use Rattle.laws.proofs.Inner.{Known, Origin, kept, fresh, known-roots, Inner}
use Rattle.laws.proofs.Acting.{with_heap, heap-inner}
use Rattle.laws.proofs.Slots.{Rewrites, rewrites-free, rewritten-rewrites, rewritten-back, object-lasts, object-from, object-free, object-room, no-places}

-- ---- registers and letters

abbrev pub re_rooted : NodeState → List (Option Ref) → List Letter → NodeState
re_rooted s rs ls = with_heap s (record s.local.heap { registers = rs; letters = ls })

-- Registers, letters and the grey list change, but no object does. What is no longer grey has only
-- known references.
around-inner : {shape : Shaped} {c d : Cut} {i : ℕ} {rs : List (Option Ref)} {ls : List Letter}
    {grey : List ℕ} → i < shape.nodes
    → Becomes c d i
    (with_heap (c i) (record (c i).local.heap { registers = rs; letters = ls; grey = grey }))
    → RootsAll (Known c i) (record (c i).local.heap { registers = rs; letters = ls; grey = grey })
    → ((k g : ℕ) (y : Object) → slot_at (c i).local.heap k ≡ Occupied g y
    → Among k (c i).local.heap.grey → Among k grey ⊎ PlacesAll (Known c i) y)
    → ((c i).local.heap.grey ≡ [] → grey ≡ []) → Inv shape c
    → Inner shape c d i
    (record (c i).local
    { heap = record (c i).local.heap { registers = rs; letters = ls; grey = grey } }) []
around-inner {i = i} inside becomes known fewer calm inv = heap-inner (record {
  inv = inv;
  inside = inside;
  becomes = becomes;
  tidy = record {
    free = (inv.tidy i).free;
    room = (inv.tidy i).room;
    marks = (inv.tidy i).marks;
    calm = λ shut. calm ((inv.tidy i).calm shut);
  };
  origin = λ k g y there. kept y there refl (λ j. inl refl) (fewer k g y there);
  lasting = λ k g x there. record { object = x; there = there; mark = inl refl };
  roots = known;
  calm = calm;
})

pub roots-inner : {shape : Shaped} {c d : Cut} {i : ℕ} (rs : List (Option Ref)) (ls : List Letter)
    → i < shape.nodes → Becomes c d i (re_rooted (c i) rs ls)
    → RootsAll (Known c i) (record (c i).local.heap { registers = rs; letters = ls })
    → Inv shape c
    → Inner shape c d i
    (record (c i).local { heap = record (c i).local.heap { registers = rs; letters = ls } }) []
roots-inner rs ls inside becomes known inv =
    around-inner inside becomes (record { registers = known.registers; letters = known.letters })
    (λ k g y there a. inl a) (λ grey. grey) inv

-- ---- an object is rewritten

-- its mark stays, and each place holds what it held, or a known reference
pub record Rewriting (c : Cut) (i : ℕ) (f : Object → Object) : Type 0 where
  pub mark : (o : Object) → (f o).mark ≡ o.mark
  pub places : (o : Object) (j : ℕ) → (get_or (f o).places j None ≡ get_or o.places j None)
      ⊎ IfAny (Known c i) (get_or (f o).places j None)

pub rewrite-inner : {shape : Shaped} {c d : Cut} {i : ℕ} (r : Ref) (f : Object → Object)
    → i < shape.nodes → Becomes c d i (with_heap (c i) (with_rewritten (c i).local.heap r f))
    → Rewriting c i f → Inv shape c
    → Inner shape c d i (record (c i).local { heap = with_rewritten (c i).local.heap r f }) []
rewrite-inner {shape = shape} {c = c} {d = d} {i = i} r f inside becomes writes inv =
    let h : Heap = (c i).local.heap in
    let g : Heap = with_rewritten h r f in
    let same : Rewrites (cycle_of c i) h g =
    rewritten-rewrites (cycle_of c i) h r f (λ x. inl (writes.mark x)) in
    let from = rewritten-back h r f in
    heap-inner (record {
      inv = inv;
      inside = inside;
      becomes = becomes;
      tidy = record {
        free = rewrites-free same (inv.tidy i).free;
        room = (let w = (inv.tidy i).room in
            let e : length g.slots ≡ length h.slots = same.width in omega (arith, w, e));
        marks = λ k e y there.
            let found = from k e y there in
            let old : found.0.mark ≤ cycle_of c i = (inv.tidy i).marks k e found.0 found.1 in
            ⊎_elim {C = y.mark ≤ cycle_of c i}
            (λ (is : y ≡ found.0). subst (λ (z : Object). z.mark ≤ cycle_of c i) (sym is) old)
            (λ (is : y ≡ f found.0).
            subst (λ (z : Object). z.mark ≤ cycle_of c i) (sym is)
            (subst (λ (z : ℕ). z ≤ cycle_of c i) (sym (writes.mark found.0)) old))
            found.2;
        calm = (inv.tidy i).calm;
      };
      origin = λ k e y there.
          let found = from k e y there in
          ⊎_elim {C = Origin c i (record (c i).local { heap = g }) k e y}
          (λ (is : y ≡ found.0).
          kept found.0 found.1 (ap (λ (z : Object). z.mark) is)
          (λ j. inl (ap (λ (z : Object). get_or z.places j None) is)) (λ a. inl a))
          (λ (is : y ≡ f found.0).
          kept found.0 found.1 (ap (λ (z : Object). z.mark) is ∙ writes.mark found.0)
          (λ j.
          subst (λ (z : Object). (get_or z.places j None ≡ get_or found.0.places j None)
          ⊎ IfAny (Known c i) (get_or z.places j None)) (sym is) (writes.places found.0 j))
          (λ a. inl a))
          found.2;
      lasting = same.lasting;
      roots =
          let old = known-roots i inv in
          record { registers = old.registers; letters = old.letters };
      calm = λ grey. grey;
    })

-- ---- a new object

pub object-inner : {shape : Shaped} {c d : Cut} {i : ℕ} (shared : Bool) (places : ℕ)
    → i < shape.nodes
    → Becomes c d i
    (with_heap (c i) (with_object (c i).local.heap (new_object shared (cycle_of c i) places)))
    → has_slot (c i).local.shape.slots (c i).local.heap ≡ true → Inv shape c
    → Inner shape c d i
    (record (c i).local {
      heap = with_object (c i).local.heap (new_object shared (cycle_of c i) places);
    })
    []
object-inner {shape = shape} {c = c} {d = d} {i = i} shared places inside becomes room inv =
    let h : Heap = (c i).local.heap in
    let o : Object = new_object shared (cycle_of c i) places in
    let tidy : Tidy (c i).local = inv.tidy i in
    heap-inner (record {
      inv = inv;
      inside = inside;
      becomes = becomes;
      tidy = record {
        free = object-free h.free h.slots o tidy.free;
        room = object-room h.free h.slots o (c i).local.shape.slots room tidy.room;
        marks = λ k e y there. ⊎_elim {C = y.mark ≤ cycle_of c i}
            (λ before. tidy.marks k e y before)
            (λ (is : y ≡ o).
            subst (λ (z : Object). z.mark ≤ cycle_of c i) (sym is) (le_refl (cycle_of c i)))
            (object-from h.free h.slots o k e y there);
        calm = tidy.calm;
      };
      origin = λ k e y there.
          ⊎_elim {C = Origin c i (record (c i).local { heap = with_object h o }) k e y}
          (λ before. kept y before refl (λ j. inl refl) (λ a. inl a))
          (λ (is : y ≡ o).
          fresh (ap (λ (z : Object). z.mark) is)
          (λ j.
          subst (λ (z : Option Ref). IfAny (Known c i) z)
          (sym (ap (λ (z : Object). get_or z.places j None) is ∙ no-places places j)) tt))
          (object-from h.free h.slots o k e y there);
      lasting = λ k e x there. record {
        object = x;
        there = object-lasts h.free h.slots o tidy.free k e x there;
        mark = inl refl;
      };
      roots =
          let old = known-roots i inv in
          record { registers = old.registers; letters = old.letters };
      calm = λ grey. grey;
    })

-- ---- a grey object has been scanned

pub scanned-inner : {shape : Shaped} {c d : Cut} {i : ℕ} (grey : List ℕ) (slot : ℕ)
    → i < shape.nodes
    → Becomes c d i (with_heap (c i) (record (c i).local.heap { grey = grey }))
    → ((k : ℕ) → Among k (c i).local.heap.grey → Among k grey ⊎ (k ≡ slot))
    → ((c i).local.heap.grey ≡ [] → grey ≡ [])
    → ((g : ℕ) (y : Object) → slot_at (c i).local.heap slot ≡ Occupied g y
    → PlacesAll (Known c i) y)
    → Inv shape c
    → Inner shape c d i (record (c i).local { heap = record (c i).local.heap { grey = grey } }) []
scanned-inner {c = c} {i = i} grey slot inside becomes fewer calm places inv =
    let old = known-roots i inv in
    around-inner inside becomes (record { registers = old.registers; letters = old.letters })
    (λ k g y there a. ⊎_elim {C = Among k grey ⊎ PlacesAll (Known c i) y}
    (λ still. inl still)
    (λ (e : k ≡ slot). inr (places g y (ap (slot_at (c i).local.heap) (sym e) ∙ there)))
    (fewer k a))
    calm inv
