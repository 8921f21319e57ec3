-- The work that a heap holds: shading moves it from unmarked objects to grey ones.
use Rattle.std.proofs.Common.{◌≡◌, ℕ, ◌+◌, ◌*◌, ◌==◌, cond, List, [], ◌∷◌, ◌++◌, Option, length, length-set, get_or, set, sum, refl, sym, ap, ◌∙◌, arith, eq-eqb}
use Rattle.std.specs.List.{sum_by}
use Rattle.std.proofs.lemmas.Bool.{cond_both, cond-true, cond-false, ne_eqb}
use Rattle.std.proofs.lemmas.List.{length-map}
use Rattle.std.proofs.lemmas.List.Sums.{sum_by_push, sum_by-set, sum-map}
use Rattle.std.proofs.Math.Path.{fun_ext}
use Rattle.ids.specs.declared.names.Ref.{Ref}
use Rattle.model.specs.State.{Object, Slot, Free, Occupied, Retired, Heap, slot_at}
use Rattle.model.specs.Heaps.{object_at, rewritten, with_rewritten, with_place, placing, remembering, sharing, share_all}
use Rattle.model.specs.Shading.{is_unmarked, with_mark, make_grey, make_all_grey}
use Rattle.model.proofs.Lookups.{at_set_if, map-set_same}
use Rattle.model.specs.Reclaiming.{slot_aged, aged}
use Rattle.laws.proofs.Sums.{sum-aged}
use Rattle.model.proofs.Slots.{found-object, occupied-within, unmarked-there}
use Rattle.model.proofs.Ages.{noted_for, noted-keeps, aged-at}
use Rattle.laws.specs.Bounds.{root_work, scan_work, slot_work, grey_work, heap_work, held_work}

-- ---- sums over lists

sum-set_same : {A : Type 0} (f : A → ℕ) (xs : List A) (i : ℕ) (x d : A) → f x ≡ f (get_or xs i d)
    → sum_by f (set xs i x) ≡ sum_by f xs
sum-set_same f xs i x d h =
    sym (sum-map f (set xs i x)) ∙ ap sum (map-set_same f xs i x d h) ∙ sum-map f xs

sum-by_same : {A : Type 0} (f g : A → ℕ) (xs : List A) → ((x : A) → f x ≡ g x)
    → sum_by f xs ≡ sum_by g xs
sum-by_same {A = A} f g xs same = ap (λ (h : A → ℕ). sum_by h xs) (fun_ext same)

-- ---- a heap with the same work

pub record SameWork (cycle : ℕ) (h g : Heap) : Type 0 where
  pub work : heap_work cycle g ≡ heap_work cycle h
  pub held : sum_by held_work g.slots ≡ sum_by held_work h.slots
  pub roots : root_work g ≡ root_work h
  pub width : length g.slots ≡ length h.slots

same-refl : (cycle : ℕ) (h : Heap) → SameWork cycle h h
same-refl cycle h = record { work = refl; held = refl; roots = refl; width = refl }

pub same-through : {cycle : ℕ} {f g h : Heap} → SameWork cycle f g → SameWork cycle g h
    → SameWork cycle f h
same-through a b = record {
  work = b.work ∙ a.work;
  held = b.held ∙ a.held;
  roots = b.roots ∙ a.roots;
  width = b.width ∙ a.width;
}

-- ---- an object is rewritten

-- its places stay as many as they are
module _ (h : Heap) (r : Ref) (f : Object → Object)
    (many : (o : Object) → length (f o).places ≡ length o.places) where
  abbrev new_slot : Slot
  new_slot = rewritten f r.generation (slot_at h r.slot)

  slot-same : (work : Slot → ℕ)
      → ((g : ℕ) (o : Object) → work (Occupied g (f o)) ≡ work (Occupied g o))
      → (s : Slot) → work (rewritten f r.generation s) ≡ work s
  slot-same work same (Occupied g o) =
      cond_both (g == r.generation) (f o) o (λ z. work (Occupied g z) ≡ work (Occupied g o))
      (λ _. same g o) (λ _. refl)
  slot-same work same s = refl

  places-same : (g : ℕ) (o : Object) → scan_work (Occupied g (f o)) ≡ scan_work (Occupied g o)
  places-same g o = ap (λ (k : ℕ). 1 + 2 * k) (many o)

  pub grey-same : (k : ℕ) → grey_work (with_rewritten h r f) k ≡ grey_work h k
  grey-same k =
      at_set_if (λ z. scan_work z ≡ grey_work h k) h.slots r.slot k new_slot Retired
      (λ (e : r.slot ≡ k).
      slot-same scan_work places-same (slot_at h r.slot) ∙ ap (grey_work h) e) refl

  pub held-rewritten : sum_by held_work (with_rewritten h r f).slots ≡ sum_by held_work h.slots
  held-rewritten =
      sum-set_same held_work h.slots r.slot new_slot Retired
      (slot-same held_work places-same (slot_at h r.slot))

  -- and so does its mark
  pub rewritten-same : (cycle : ℕ) → ((o : Object) → (f o).mark ≡ o.mark)
      → SameWork cycle h (with_rewritten h r f)
  rewritten-same cycle marks = record {
    work =
        ap (λ (z : ℕ). z + sum_by (grey_work (with_rewritten h r f)) h.grey)
        (sum-set_same (slot_work cycle) h.slots r.slot new_slot Retired
        (slot-same (slot_work cycle)
        (λ g o.
        ap (λ (m : ℕ). cond (m == cycle) 0 (scan_work (Occupied g (f o)))) (marks o)
        ∙ ap (λ (k : ℕ). cond (o.mark == cycle) 0 k) (places-same g o))
        (slot_at h r.slot)))
        ∙ ap (λ (z : ℕ). sum_by (slot_work cycle) h.slots + z)
        (sum-by_same (grey_work (with_rewritten h r f)) (grey_work h) h.grey grey-same);
    held = held-rewritten;
    roots = refl;
    width = length-set h.slots r.slot new_slot;
  }

pub shared-same : (cycle own : ℕ) (rs : List Ref) (h : Heap)
    → SameWork cycle h (share_all own h rs)
shared-same cycle own [] h = same-refl cycle h
shared-same cycle own (r ∷ rs) h =
    same-through
    (cond_both (r.node == own) (with_rewritten h r sharing) h (SameWork cycle h)
    (λ _. rewritten-same h r sharing (λ o. refl) cycle (λ o. refl)) (λ _. same-refl cycle h))
    (shared-same cycle own rs (cond (r.node == own) (with_rewritten h r sharing) h))

-- a place is written
pub placed-same : (cycle own : ℕ) (h : Heap) (r : Ref) (place : ℕ) (v : Option Ref)
    → SameWork cycle h (with_place own h r place v)
placed-same cycle own h r place v =
    same-through
    (noted-keeps (SameWork cycle h) own h r v
    (λ z. rewritten-same h z remembering (λ o. refl) cycle (λ o. refl)) (same-refl cycle h))
    (rewritten-same (noted_for own h r v) r (placing place v)
    (λ o. length-set o.places place v) cycle (λ o. refl))

-- objects become old

pub aged-same : (cycle : ℕ) (h : Heap) → SameWork cycle h (aged h)
aged-same cycle h = record {
  work =
      ap (λ (z : ℕ). z + sum_by (grey_work (aged h)) h.grey)
      (sum-aged (slot_work cycle) slot h.slots)
      ∙ ap (λ (z : ℕ). sum_by (slot_work cycle) h.slots + z)
      (sum-by_same (grey_work (aged h)) (grey_work h) h.grey
      (λ k. ap scan_work (aged-at h k) ∙ scan (slot_at h k)));
  held = sum-aged held_work held h.slots;
  roots = refl;
  width = length-map h.slots slot_aged;
}
  where
    scan : (s : Slot) → scan_work (slot_aged s) ≡ scan_work s
    scan (Free g) = refl
    scan (Occupied g o) = refl
    scan Retired = refl

    slot : (s : Slot) → slot_work cycle (slot_aged s) ≡ slot_work cycle s
    slot (Free g) = refl
    slot (Occupied g o) = refl
    slot Retired = refl

    held : (s : Slot) → held_work (slot_aged s) ≡ held_work s
    held (Free g) = refl
    held (Occupied g o) = refl
    held Retired = refl

-- ---- an object turns grey

grey-one : (cycle : ℕ) (h : Heap) (r : Ref) → SameWork cycle h (make_grey cycle h r)
unfolding make_grey
grey-one cycle h r =
    cond_both (is_unmarked cycle (object_at h r))
    (record (with_rewritten h r (with_mark cycle)) { grey = h.grey ++ r.slot ∷ [] }) h
    (SameWork cycle h)
    (λ unmarked.
    let found = unmarked-there cycle (object_at h r) unmarked in
    let o : Object = found.0 in
    let there : slot_at h r.slot ≡ Occupied r.generation o = found-object h r o found.1 in
    let new : Slot = rewritten (with_mark cycle) r.generation (slot_at h r.slot) in
    let g : Heap = with_rewritten h r (with_mark cycle) in
    let is : new ≡ Occupied r.generation (with_mark cycle o) =
    ap (rewritten (with_mark cycle) r.generation) there
    ∙ ap (Occupied r.generation)
    (cond-true (r.generation == r.generation) (with_mark cycle o) o (eq-eqb _ _ refl)) in
    let many : (x : Object) → length (with_mark cycle x).places ≡ length x.places = λ x. refl in
    let slots = sum_by-set (slot_work cycle) h.slots r.slot new Retired
    (occupied-within h.slots r.slot r.generation o there) in
    let none : slot_work cycle new ≡ 0 =
    ap (slot_work cycle) is
    ∙ cond-true (cycle == cycle) 0 (scan_work (Occupied r.generation o)) (eq-eqb _ _ refl) in
    let all : slot_work cycle (slot_at h r.slot) ≡ grey_work h r.slot =
    ap (slot_work cycle) there
    ∙ cond-false (o.mark == cycle) 0 (scan_work (Occupied r.generation o))
    (ne_eqb o.mark cycle found.2) ∙ ap scan_work (sym there) in
    let greys : sum_by (grey_work g) (h.grey ++ r.slot ∷ [])
    ≡ sum_by (grey_work h) h.grey + grey_work h r.slot =
    sum-by_same (grey_work g) (grey_work h) (h.grey ++ r.slot ∷ [])
    (grey-same h r (with_mark cycle) many)
    ∙ sum_by_push (grey_work h) h.grey r.slot in
    record {
      work = omega (arith, slots, none, all, greys);
      held = held-rewritten h r (with_mark cycle) many;
      roots = refl;
      width = length-set h.slots r.slot new;
    })
    (λ _. same-refl cycle h)

pub grey-all : (own cycle : ℕ) (h : Heap) (rs : List Ref)
    → SameWork cycle h (make_all_grey own cycle h rs)
grey-all own cycle h [] = same-refl cycle h
grey-all own cycle h (r ∷ rs) =
    same-through
    (cond_both (r.node == own) (make_grey cycle h r) h (SameWork cycle h)
    (λ _. grey-one cycle h r) (λ _. same-refl cycle h))
    (grey-all own cycle (cond (r.node == own) (make_grey cycle h r) h) rs)
