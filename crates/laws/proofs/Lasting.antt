-- What a node's moves keep of a slot. Take a property of a slot and a generation that is kept when
-- an object is rewritten and when one is made. Then every message keeps it, and every event that
-- frees nothing; also those that free objects, if it is kept when one goes and when one becomes
-- old.
use Rattle.std.proofs.Common.{◌≡◌, ℕ, ◌<◌, ◌==◌, cond, true, List, [], ◌∷◌, ◌++◌, length, length-set, length-append, get_or, set, sym, subst, refl, ⊎_elim, arith}
use Rattle.std.proofs.lemmas.Bool.{cond_both}
use Rattle.std.proofs.lemmas.List.{get_or_append_left, length-map}
use Rattle.ids.specs.declared.names.Ref.{Ref}
use Rattle.msg.specs.declared.body.Body.{Body}
use Rattle.model.specs.declared.event.Event.{Event}
use Rattle.model.specs.State.{Object, Slot, Occupied, Retired, Heap, LocalState, slot_at}
use Rattle.model.specs.Heaps.{rewritten, with_rewritten, slots_with, next_generation, object_at, sharing}
use Rattle.model.specs.Counting.{append, announce}
use Rattle.model.specs.Shading.{is_open, is_unmarked, with_mark, make_grey, make_all_grey, enter, see_to}
use Rattle.model.specs.Collecting.{is_garbage, vacated_slot, looked_at}
use Rattle.model.specs.Reclaiming.{slot_aged, aged, freed_within}
use Rattle.model.specs.Steps.{frees, is_own, made, taken_in, settled, count_in}
use Rattle.model.proofs.Lookups.{at_set_if}
use Rattle.model.proofs.Ages.{aged-at}
use Rattle.model.proofs.Freeing.{garbage-test, Freed, freed-some, freed-reclaiming}
use Rattle.model.proofs.Walk.{Collects, Moves, Frees, own-moves, taken-moves, place-walks, post-walks}
use Rattle.laws.proofs.Invariant.{IsFree, FreeSlots}

-- kept when an object is rewritten, and when a new one is made in a free slot
pub record IsKept (Q : Slot → ℕ → Type 0) : Type 0 where
  pub rewritten : (f : Object → Object) (g : ℕ) (s : Slot) (e : ℕ) → Q s e → Q (rewritten f g s) e
  pub made : (s : Slot) (o : Object) (e : ℕ) → IsFree s → Q s e
      → Q (Occupied (next_generation s) o) e

-- kept when an object goes, and when it has become old
pub record IsKeptFreed (Q : Slot → ℕ → Type 0) : Type 0 where
  pub vacated : (g : ℕ) (o : Object) (e : ℕ) → Q (Occupied g o) e → Q (vacated_slot g) e
  pub aged : (s : Slot) (e : ℕ) → Q s e → Q (slot_aged s) e

-- the heap has the slot, and the property holds there
pub record At (Q : Slot → ℕ → Type 0) (h : Heap) (k e : ℕ) : Type 0 where
  pub used : k < length h.slots
  pub holds : Q (slot_at h k) e

abbrev pub Keeps : (Slot → ℕ → Type 0) → Heap → Heap → Type 0
Keeps Q h g = (k e : ℕ) → At Q h k e → At Q g k e

-- registers, letters and the grey list aren't read
pub keeps-slots : {Q : Slot → ℕ → Type 0} {h g : Heap} → g.slots ≡ h.slots → Keeps Q h g
keeps-slots {Q = Q} {h = h} {g = g} same k e x =
    let y : (k < length g.slots) × Q (get_or g.slots k Retired) e =
    subst (λ (z : List Slot). (k < length z) × Q (get_or z k Retired) e) (sym same)
    (x.used, x.holds) in
    record { used = y.0; holds = y.1 }

module _ {Q : Slot → ℕ → Type 0} (kept : IsKept Q) where
  keeps-set : (h : Heap) (i : ℕ) (s : Slot) → ((e : ℕ) → Q (slot_at h i) e → Q s e)
      → Keeps Q h (record h { slots = set h.slots i s })
  keeps-set h i s keep k e x = record {
    used = (let w = x.used in
        let n : length (set h.slots i s) ≡ length h.slots = length-set h.slots i s in
        omega (arith, w, n));
    holds = at_set_if (λ z. Q z e) h.slots i k s Retired
        (λ (n : i ≡ k). keep e (subst (λ (z : ℕ). Q (slot_at h z) e) (sym n) x.holds))
        x.holds;
  }

  pub keeps-rewritten : (h : Heap) (r : Ref) (f : Object → Object)
      → Keeps Q h (with_rewritten h r f)
  keeps-rewritten h r f =
      keeps-set h r.slot (rewritten f r.generation (slot_at h r.slot))
      (kept.rewritten f r.generation (slot_at h r.slot))

  keeps-grey : (cycle : ℕ) (h : Heap) (r : Ref) → Keeps Q h (make_grey cycle h r)
  unfolding make_grey
  keeps-grey cycle h r =
      cond_both (is_unmarked cycle (object_at h r))
      (record (with_rewritten h r (with_mark cycle)) { grey = h.grey ++ r.slot ∷ [] }) h (Keeps Q h)
      (λ _ k e x.
      (let y = keeps-rewritten h r (with_mark cycle) k e x in
      record { used = y.used; holds = y.holds }))
      (λ _ k e x. x)

  keeps-all_grey : (own cycle : ℕ) (h : Heap) (rs : List Ref)
      → Keeps Q h (make_all_grey own cycle h rs)
  keeps-all_grey own cycle h [] k e x = x
  keeps-all_grey own cycle h (r ∷ rs) k e x =
      keeps-all_grey own cycle (cond (r.node == own) (make_grey cycle h r) h) rs k e
      (cond_both (r.node == own) (make_grey cycle h r) h (λ z. At Q z k e)
      (λ _. keeps-grey cycle h r k e x) (λ _. x))

  keeps-object : (named : List ℕ) (slots : List Slot) (o : Object) → FreeSlots slots named
      → (k e : ℕ) → k < length slots → Q (get_or slots k Retired) e
      → (k < length (slots_with named slots o)) × Q (get_or (slots_with named slots o) k Retired) e
  keeps-object [] slots o f k e used holds = (
    (let n = length-append slots (Occupied 1 o ∷ []) in omega (arith, used, n)),
    subst (λ (z : Slot). Q z e)
        (sym (get_or_append_left slots (Occupied 1 o ∷ []) Retired k used)) holds,
  )
  keeps-object (j ∷ js) slots o f k e used holds =
      let s : Slot = Occupied (next_generation (get_or slots j Retired)) o in (
        (let n = length-set slots j s in omega (arith, used, n)),
        at_set_if (λ z. Q z e) slots j k s Retired
            (λ (n : j ≡ k).
            kept.made (get_or slots j Retired) o e f.free.0
            (subst (λ (z : ℕ). Q (get_or slots z Retired) e) (sym n) holds))
            holds,
      )

  -- ---- nodes

  keeps-collects : Collects (λ p w. Keeps Q p.heap w.local.heap)
  unfolding see_to enter append announce
  keeps-collects = record {
    rest = λ p k e x. x;
    both = λ p w f first second k e x. second k e (first k e x);
    sees = λ due rs p. keeps-all_grey p.own p.phases.cycle p.heap (cond (is_open p) rs []);
    enters = λ p cycle later. keeps-slots refl;
    rings = λ p r k e x. x;
    ends = λ p k e x. x;
    hears = λ p reports k e x. x;
    scans = λ p. keeps-slots refl;
    sends = λ to b p quiet k e x. x;
    tells = λ b p quiet k e x. x;
  }

  -- if the free list names free slots, when an object is made
  pub keeps-moves : Moves (λ p. FreeSlots p.heap.slots p.heap.free)
      (λ p w. Keeps Q p.heap w.local.heap)
  unfolding append
  keeps-moves = record {
    collects = keeps-collects;
    roots = λ p registers letters. keeps-slots refl;
    rewrites = λ p r f quiet. keeps-rewritten p.heap r f;
    places = place-walks keeps-collects (λ p r f shared. keeps-rewritten p.heap r f);
    makes = λ p register places f k e x.
        (let y = keeps-object p.heap.free p.heap.slots _ f k e x.used x.holds in
        record { used = y.0; holds = y.1 });
    gives = λ to b p carries.
        post-walks keeps-collects (λ q r. keeps-rewritten q.heap r sharing) to b p (λ k e x. x);
  }

  pub keeps-taken : (p : LocalState) (from number stamp : ℕ) (b : Body)
      → Keeps Q p.heap (taken_in p from number stamp b).local.heap
  unfolding taken_in settled count_in
  keeps-taken p from number stamp b = taken-moves keeps-moves p from stamp b

-- ---- objects are freed

module _ {Q : Slot → ℕ → Type 0} (kept : IsKeptFreed Q) where
  keeps-freed : {h g : Heap} → Freed h g → Keeps Q h g
  keeps-freed {h = h} {g = g} f k e x = record {
    used = (let w = x.used in let n = f.width in omega (arith, w, n));
    holds = ⊎_elim {C = Q (slot_at g k) e}
        (λ same. subst (λ (z : Slot). Q z e) (sym same) x.holds)
        (λ v.
        subst (λ (z : Slot). Q z e) (sym v.is)
        (kept.vacated v.generation v.object e (subst (λ (z : Slot). Q z e) v.was x.holds)))
        (f.each k);
  }

  keeps-aged : (h : Heap) → Keeps Q h (aged h)
  keeps-aged h k e x = record {
    used = (let w = x.used in let n = length-map h.slots slot_aged in omega (arith, w, n));
    holds = subst (λ (z : Slot). Q z e) (sym (aged-at h k)) (kept.aged (slot_at h k) e x.holds);
  }

  pub keeps-frees : Frees (λ p w. Keeps Q p.heap w.local.heap)
  keeps-frees = record {
    sweeps = λ p count.
        keeps-freed (freed-some (λ _. is_garbage p.phases.cycle) (garbage-test p.phases.cycle)
        p.phases.cursor (looked_at p count) (record { heap = p.heap; freed = 0 }));
    reclaims = λ p scope k e x.
        (let y = keeps-freed (freed-reclaiming scope p.own p.heap) k e x in
        keeps-aged (freed_within scope p.own p.heap) k e
        (record { used = y.used; holds = y.holds }));
  }

-- ---- every event

module _ {Q : Slot → ℕ → Type 0} (kept : IsKept Q) where
  pub keeps-own : (p : LocalState) (counts : List ℕ) (e : Event) → is_own e ≡ true
      → (frees e ≡ true → IsKeptFreed Q) → FreeSlots p.heap.slots p.heap.free
      → Keeps Q p.heap (made p counts e).local.heap
  keeps-own p counts e own may f =
      own-moves (keeps-moves kept) p counts e own (λ some. keeps-frees (may some)) f
