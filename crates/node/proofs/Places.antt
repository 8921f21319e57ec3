-- Marking changes nothing of an object but its mark: not what its places hold, nor its word and
-- bytes.
use Rattle.std.proofs.Common.{◌≡◌, ℕ, Bool, true, false, cond, ◌==◌, List, [], ◌∷◌, ◌++◌, Option, Some, None, refl, ◌∙◌, ap}
use Rattle.std.specs.Prelude.{nat_lt}
use Rattle.std.proofs.lemmas.Bool.{cond_both}
use Rattle.ids.specs.declared.names.Ref.{Ref}
use Rattle.model.specs.Effects.{Work, at_rest}
use Rattle.model.specs.Heaps.{fetched, object_of, object_at, place_of, rewritten, with_rewritten}
use Rattle.model.specs.Shading.{enter, filled, is_open, is_unmarked, join, joined, make_all_grey, make_grey, roots, see_to, with_mark}
use Rattle.model.specs.State.{Object, Slot, Free, Occupied, Retired, Heap, LocalState, slot_at}
use Rattle.model.proofs.Lookups.{at_set_if}

-- what is read of an object, whatever its mark
module _ {A : Type 0} (read : Option Object → A)
    (same : (cycle : ℕ) (o : Object) → read (Some (with_mark cycle o)) ≡ read (Some o)) where
  marked-object : (a b : Bool) (cycle : ℕ) (o : Object)
      → read (cond b (Some (cond a (with_mark cycle o) o)) None) ≡ read (cond b (Some o) None)
  marked-object true true cycle o = same cycle o
  marked-object false true cycle o = refl
  marked-object true false cycle o = refl
  marked-object false false cycle o = refl

  marked-slot : (s : Slot) (cycle generation g : ℕ)
      → read (object_of (rewritten (with_mark cycle) generation s) g) ≡ read (object_of s g)
  marked-slot (Free k) cycle generation g = refl
  marked-slot (Occupied k o) cycle generation g =
      marked-object (k == generation) (k == g) cycle o
  marked-slot Retired cycle generation g = refl

  grey-read : (cycle : ℕ) (h : Heap) (r s : Ref)
      → read (object_at (make_grey cycle h r) s) ≡ read (object_at h s)
  unfolding make_grey
  grey-read cycle h r s =
      let old : A = read (object_at h s) in
      cond_both (is_unmarked cycle (object_at h r))
      (record (with_rewritten h r (with_mark cycle)) { grey = h.grey ++ r.slot ∷ [] }) h
      (λ (z : Heap). read (object_at z s) ≡ old)
      (λ _.
      at_set_if (λ (z : Slot). read (object_of z s.generation) ≡ old) h.slots r.slot s.slot
      (rewritten (with_mark cycle) r.generation (slot_at h r.slot)) Retired
      (λ at.
      marked-slot (slot_at h r.slot) cycle r.generation s.generation
      ∙ ap (λ (k : ℕ). read (object_of (slot_at h k) s.generation)) at)
      refl)
      (λ _. refl)

  all-read : (own cycle : ℕ) (h : Heap) (rs : List Ref) (s : Ref)
      → read (object_at (make_all_grey own cycle h rs) s) ≡ read (object_at h s)
  all-read own cycle h [] s = refl
  all-read own cycle h (r ∷ rs) s =
      all-read own cycle (cond (r.node == own) (make_grey cycle h r) h) rs s
      ∙ cond_both (r.node == own) (make_grey cycle h r) h
      (λ (z : Heap). read (object_at z s) ≡ read (object_at h s))
      (λ _. grey-read cycle h r s)
      (λ _. refl)

  seen-read : (due : Bool) (rs : List Ref) (p : LocalState) (r : Ref)
      → read (object_at (see_to due rs p).local.heap r) ≡ read (object_at p.heap r)
  unfolding see_to
  seen-read due rs p r =
      all-read p.own p.phases.cycle p.heap (cond (is_open p) rs []) r

  joined-read : (p : LocalState) (stamp : ℕ) (r : Ref)
      → read (object_at (joined p stamp).local.heap r) ≡ read (object_at p.heap r)
  unfolding join enter
  joined-read p stamp r =
      cond_both (nat_lt p.phases.cycle stamp) (join p stamp) (at_rest p)
      (λ (w : Work). read (object_at w.local.heap r) ≡ read (object_at p.heap r))
      (λ _. seen-read true (filled (roots p.heap)) (enter p stamp) r)
      (λ _. refl)

pub seen-places : (due : Bool) (rs : List Ref) (p : LocalState) (r : Ref) (place : ℕ)
    → place_of (object_at (see_to due rs p).local.heap r) place ≡ place_of (object_at p.heap r)
    place
seen-places due rs p r place =
    seen-read (λ (o : Option Object). place_of o place) (λ cycle o. refl) due rs p r

pub joined-places : (p : LocalState) (stamp : ℕ) (r : Ref) (place : ℕ)
    → place_of (object_at (joined p stamp).local.heap r) place ≡ place_of (object_at p.heap r) place
joined-places p stamp r place =
    joined-read (λ (o : Option Object). place_of o place) (λ cycle o. refl) p stamp r

-- the same of the word and a range of the bytes
module _ (r : Ref) (offset count : ℕ) where
  pub seen-fetched : (due : Bool) (rs : List Ref) (p : LocalState)
      → fetched (object_at (see_to due rs p).local.heap r) offset count
      ≡ fetched (object_at p.heap r) offset count
  seen-fetched due rs p =
      seen-read (λ (o : Option Object). fetched o offset count) (λ cycle o. refl) due rs p r

  pub joined-fetched : (p : LocalState) (stamp : ℕ)
      → fetched (object_at (joined p stamp).local.heap r) offset count
      ≡ fetched (object_at p.heap r) offset count
  joined-fetched p stamp =
      joined-read (λ (o : Option Object). fetched o offset count) (λ cycle o. refl) p stamp r
