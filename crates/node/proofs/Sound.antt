-- Each event on the heap alone preserves what holds of every node.
use Rattle.std.proofs.Common.{◌≡◌, ℕ, suc, ◌<◌, ◌≤◌, Bool, not, List, [], ◌∷◌, length, get_or, Option, Some, None, Ok, nat_le, refl, ap, sym, ◌∙◌, subst, arith, rules, length-append, le_refl}
use Rattle.std.proofs.lemmas.Bool.{leb-true, and_parts}
use Rattle.std.proofs.lemmas.List.{length-set}
use Rattle.ids.specs.declared.names.Ref.{Ref}
use Rattle.ids.specs.declared.refusal.Refusal.{Refusal}
use Rattle.model.specs.declared.event.Accepted.{Accepted}
use Rattle.model.specs.Checks.{AllPass, guarded}
use Rattle.model.specs.State.{Object, Slot, Occupied, Retired, Heap, register_at}
use Rattle.model.specs.Heaps.{with_register, next_generation, slots_with, heap_alloc, alloc_tests, alloc_heap, with_object, new_object, new_reference, named, heap_copy, copy_tests, heap_drop, drop_tests, heap_accept, accept_tests, accepting, told_of, oldest_letter, heap_store, store_tests, with_place, heap_clear, clear_tests, heap_set_word, word_tests, with_word, with_rewritten, filling, patching, heap_set_bytes, set_bytes_tests, heap_patch, patch_tests}
use Rattle.model.specs.References.{IfAny, IsWithin}
use Rattle.model.specs.declared.event.Answer.TheVariants as answer
use Rattle.model.specs.declared.event.Event.TheVariants as event
use Rattle.model.specs.View.{NodeView, view_act}
use Rattle.model.specs.WellFormed.{IsStocked}
use Rattle.model.proofs.Checks.{guarded-ok, guarded-passes}
use Rattle.model.proofs.Ages.{noted_for, noted-keeps}
use Rattle.model.proofs.References.{holds-letters_taken, holds-with_register, holds-with_object, holds-with_place, holds-with_word, holds-with_rewritten}
use Rattle.model.proofs.Walk.{taken-roots}
use Rattle.model.proofs.Stocks.{stocked-letters_taken, stocked-object, stocked-place, stocked-register, stocked-word, stocked-bytes, stocked-patch}
use Rattle.heap.specs.Heap.{HeapView}
use Rattle.link.specs.Links.{LinksView}
use Rattle.node.specs.Inside.{view_of, IsSound}
use Rattle.node.specs.Invariant.{IsNode}
use Rattle.node.specs.declared.node_core.Core.TheInside.{Inside}
use Rattle.node.proofs.Events.{okay}
use Rattle.node.proofs.Nodes.{node-heap}

-- the node with this heap
abbrev pub with_heap : NodeView → Heap → NodeView
with_heap n h = record n { local = record n.local { heap = h } }

-- an allocation may add a slot, and removes none
slots_with-more : (free : List ℕ) (slots : List Slot) (o : Object)
    → length slots ≤ length (slots_with free slots o)
slots_with-more [] slots o = omega (arith, length-append slots (Occupied 1 o ∷ []))
slots_with-more (k ∷ ks) slots o =
    omega (arith, length-set slots k (Occupied (next_generation (get_or slots k Retired)) o))

-- an object was allocated, with this reference and in this heap
pub record Allocates (n : NodeView) (cycle register places : ℕ) (g : Heap) (r : Ref) : Type 0
  where
    pub now : cycle ≡ n.local.phases.cycle
    pub done : heap_alloc n.local.shape n.local.own cycle n.local.heap register places ≡ Ok (g, r)
    pub slot : r.slot < n.local.shape.slots
    pub generation : 1 ≤ r.generation

-- and its reference is the answer
pub alloc-answered : (n : NodeView) (register places : ℕ) {g : Heap} {r : Ref}
    → heap_alloc n.local.shape n.local.own n.local.phases.cycle n.local.heap register places
    ≡ Ok (g, r)
    → view_act n (event.Alloc register places) ≡ okay (with_heap n g) (answer.New r)
unfolding heap_alloc view_act
alloc-answered n register places h = search rules

module _ (n : NodeView) (old : IsNode n) where
  pub node-allocated : {cycle register places : ℕ} {g : Heap} {r : Ref}
      → Allocates n cycle register places g r → IsNode (with_heap n g)
  unfolding heap_alloc
  node-allocated {cycle = cycle} {register = register} {places = places} {g = g} {r = r} a =
      let p = n.local in
      let h : Heap = p.heap in
      let at : ℕ = p.phases.cycle in
      let shared : Bool = not p.shape.wide in
      let tests = alloc_tests p.shape.slots p.shape.places h register places in
      let both : ◌≡◌ {A = Heap × Ref}
      (alloc_heap p.own shared cycle h register places, new_reference p.own h) (g, r) =
      guarded-ok tests _ _ a.done in
      let name : new_reference p.own h ≡ r = ap (λ (z : Heap × Ref). z.1) both in
      let within : IsWithin p.shape r = record {
        node = subst (λ (z : Ref). z.node < p.shape.nodes) name old.own;
        slot = a.slot;
        generation = a.generation;
      } in
      let heap : alloc_heap p.own shared at h register places ≡ g =
      ap (λ (k : ℕ). alloc_heap p.own shared k h register places) (sym a.now)
      ∙ ap (λ (z : Heap × Ref). z.0) both in
      let passed : AllPass tests = guarded-passes tests _ _ a.done in
      let o : Object = new_object shared at places in
      subst (λ (z : Heap). IsNode (with_heap n z)) heap
      (node-heap n (alloc_heap p.own shared at h register places) old
      (holds-with_register (IsWithin p.shape) (with_object h o) register
      (Some (new_reference p.own h))
      (holds-with_object (IsWithin p.shape) h shared at places old.references)
      (subst (IsWithin p.shape) (sym name) within))
      (stocked-register (stocked-object old.stocked shared places (λ plain. ap not plain)
      (leb-true places p.shape.places passed.1.0))
      register (Some (new_reference p.own h)))
      (slots_with-more h.free h.slots o))

  -- the heap is what passed the tests of an event
  tested : (tests : List (Bool × Refusal)) (h g : Heap) → guarded tests h ≡ Ok g
      → IsNode (with_heap n h) → IsNode (with_heap n g)
  tested tests h g e is = subst (λ (z : Heap). IsNode (with_heap n z)) (guarded-ok tests h g e) is

  pub node-registered : (register : ℕ) (v : Option Ref) → IfAny (IsWithin n.local.shape) v
      → IsNode (with_heap n (with_register n.local.heap register v))
  node-registered register v within =
      let p = n.local in
      node-heap n (with_register p.heap register v) old
      (holds-with_register (IsWithin p.shape) p.heap register v old.references within)
      (stocked-register old.stocked register v)
      (le_refl (length p.heap.slots))

  pub node-copied : (register source : ℕ) (g : Heap)
      → heap_copy n.local.heap register source ≡ Ok g → IsNode (with_heap n g)
  unfolding heap_copy
  node-copied register source g e =
      tested (copy_tests n.local.heap register source) _ g e
      (node-registered register (register_at n.local.heap source) (old.references.registers source))

  pub node-dropped : (register : ℕ) (g : Heap) → heap_drop n.local.heap register ≡ Ok g
      → IsNode (with_heap n g)
  unfolding heap_drop
  node-dropped register g e =
      tested (drop_tests n.local.heap register) _ g e (node-registered register None tt)

  pub node-accepted : (register : ℕ) (g : Heap) (l : Accepted)
      → heap_accept n.local.heap register ≡ Ok (g, l) → IsNode (with_heap n g)
  unfolding heap_accept
  node-accepted register g l e =
      let p = n.local in
      let count : ℕ = suc (oldest_letter p.heap).more in
      let both : ◌≡◌ {A = Heap × Accepted}
      (accepting p.heap register, told_of (oldest_letter p.heap)) (g, l) =
      guarded-ok (accept_tests p.heap register) _ _ e in
      subst (λ (z : Heap × Accepted). IsNode (with_heap n z.0)) both
      (node-heap n (accepting p.heap register) old
      (holds-letters_taken (IsWithin p.shape) count p.heap register old.references)
      (stocked-letters_taken count old.stocked register)
      (omega (arith, ap (λ (z : Heap). length z.slots) (taken-roots count p.heap register))))

  pub node-placed : (r : Ref) (place : ℕ) (v : Option Ref) → IfAny (IsWithin n.local.shape) v
      → IsNode (with_heap n (with_place n.local.own n.local.heap r place v))
  node-placed r place v within =
      let p = n.local in
      let noted = noted-keeps (λ (h : Heap). length h.slots ≡ length p.heap.slots) p.own p.heap r v
      (λ z. length-set p.heap.slots z.slot _) refl in
      let slots : length (with_place p.own p.heap r place v).slots ≡ length p.heap.slots =
      length-set (noted_for p.own p.heap r v).slots r.slot _ ∙ noted in
      node-heap n (with_place p.own p.heap r place v) old
      (holds-with_place (IsWithin p.shape) p.own p.heap r place v old.references within)
      (stocked-place old.stocked p.own r place v)
      (omega (arith, slots))

  pub node-stored : (object place register : ℕ) (g : Heap)
      → heap_store n.local.own n.local.heap object place register ≡ Ok g → IsNode (with_heap n g)
  unfolding heap_store
  node-stored object place register g e =
      tested (store_tests n.local.own n.local.heap object place register) _ g e
      (node-placed (named n.local.heap object) place (register_at n.local.heap register)
      (old.references.registers register))

  pub node-cleared : (object place : ℕ) (g : Heap)
      → heap_clear n.local.own n.local.heap object place ≡ Ok g → IsNode (with_heap n g)
  unfolding heap_clear
  node-cleared object place g e =
      tested (clear_tests n.local.own n.local.heap object place) _ g e
      (node-placed (named n.local.heap object) place None tt)

  pub node-word_set : (object word : ℕ) (g : Heap)
      → heap_set_word n.local.own n.local.heap object word ≡ Ok g → IsNode (with_heap n g)
  unfolding heap_set_word
  node-word_set object word g e =
      let p = n.local in
      let r : Ref = named p.heap object in
      let slots : length (with_word p.heap r word).slots ≡ length p.heap.slots =
      length-set p.heap.slots r.slot _ in
      tested (word_tests p.own p.heap object) _ g e
      (node-heap n (with_word p.heap r word) old
      (holds-with_word (IsWithin p.shape) p.heap r word old.references)
      (stocked-word old.stocked r word)
      (omega (arith, slots)))

  -- an object is rewritten, and its places stay
  node-rewritten : (r : Ref) (f : Object → Object) → ((o : Object) → (f o).places ≡ o.places)
      → IsStocked n.local.shape n.local.own n.local.phases.cycle n.local.phases.ended
      (with_rewritten n.local.heap r f)
      → IsNode (with_heap n (with_rewritten n.local.heap r f))
  node-rewritten r f same stocked =
      let p = n.local in
      let slots : length (with_rewritten p.heap r f).slots ≡ length p.heap.slots =
      length-set p.heap.slots r.slot _ in
      node-heap n (with_rewritten p.heap r f) old
      (holds-with_rewritten (IsWithin p.shape) p.heap r f
      (λ o j there.
      subst (λ (vs : List (Option Ref)). IfAny (IsWithin p.shape) (get_or vs j None)) (sym (same o))
      there)
      old.references)
      stocked
      (omega (arith, slots))

  pub node-bytes_set : (object : ℕ) (bytes : List ℕ) (g : Heap)
      → heap_set_bytes n.local.shape n.local.own n.local.heap object bytes ≡ Ok g
      → IsNode (with_heap n g)
  unfolding heap_set_bytes
  node-bytes_set object bytes g e =
      let p = n.local in
      let r : Ref = named p.heap object in
      let tests = set_bytes_tests p.shape p.own p.heap object (length bytes) in
      let passed : AllPass tests = guarded-passes tests _ _ e in
      let fits = (and_parts p.shape.wide (nat_le (length bytes) p.shape.bytes)
      passed.1.1.1.1.0).1 in
      tested tests _ g e
      (node-rewritten r (filling bytes) (λ o. refl)
      (stocked-bytes old.stocked r bytes (leb-true (length bytes) p.shape.bytes fits)))

  pub node-patched : (object offset : ℕ) (bytes : List ℕ) (g : Heap)
      → heap_patch n.local.shape n.local.own n.local.heap object offset bytes ≡ Ok g
      → IsNode (with_heap n g)
  unfolding heap_patch
  node-patched object offset bytes g e =
      let p = n.local in
      let r : Ref = named p.heap object in
      tested (patch_tests p.shape p.own p.heap object offset (length bytes)) _ g e
      (node-rewritten r (patching offset bytes) (λ o. refl)
      (stocked-patch old.stocked r offset bytes))

-- the struct, once its heap has changed
pub sound-heap : {m : Inside} {h : HeapView} → IsSound m → IsNode (with_heap (view_of m) h.heap)
    → h.limit ≡ m.heap.limit → IsSound (record m { heap = h })
sound-heap was node same = record { node = node; limit = same ∙ was.limit }

-- the struct as it was, since the part that a call could have changed is as it was
pub heap-back : {m : Inside} {h : HeapView} → IsSound m → h ≡ m.heap
    → IsSound (record m { heap = h })
heap-back {m = m} was same =
    subst (λ (z : HeapView). IsSound (record m { heap = z })) (sym same) was

pub links-back : {m : Inside} {l : LinksView} → IsSound m → l ≡ m.links
    → IsSound (record m { links = l })
links-back {m = m} was same =
    subst (λ (z : LinksView). IsSound (record m { links = z })) (sym same) was

pub ruleset allocated = (alloc-answered)
