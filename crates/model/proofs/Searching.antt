-- A search for the objects that are needed: its steps, and that it finds exactly these.
use Rattle.std.proofs.Common.{◌≡◌, ◌≢◌, ◌⊎◌, ℕ, zero, suc, ◌+◌, ◌<◌, ◌≤◌, ◌==◌, ◌&&◌, Bool, true, false, not, List, [], ◌∷◌, ◌++◌, length, take, get_or, set, Option, Some, None, is_some, refl, sym, ap, ◌∙◌, subst, inl, inr, ⊎_elim, arith, get_or-set_same, get_or-set_other}
use Rattle.std.proofs.lemmas.Bool.{cases_lt, cases_eq, cases_Bool, and_parts, both_ways, eqb-true}
use Rattle.std.proofs.lemmas.List.{length-set, length-append, get_or_past, take_more}
use Rattle.ids.specs.declared.names.Ref.{Ref}
use Rattle.model.specs.declared.age.Scope.{Scope}
use Rattle.model.specs.declared.age.Scope.TheVariants as scopes
use Rattle.model.specs.State.{Slot, Free, Occupied, Retired, Heap, slot_at}
use Rattle.model.specs.Heaps.{object_at}
use Rattle.model.specs.Shading.{filled, roots}
use Rattle.model.specs.Collecting.{places_in, generation_in, Sweeping, free_one, free_some}
use Rattle.model.specs.Reclaiming.{is_occupied, is_shared, reference_in, is_needed, is_lost, is_recent, seen, reclaiming}
use Rattle.model.specs.Cuts.{Among}
use Rattle.model.specs.Searching.{sought, is_missed, Search, is_found, noted, is_new, unfound, work_of, IsNamed, Finds, Begins, Rooted, Tells}
use Rattle.model.proofs.Shading.{filled-append}
use Rattle.model.proofs.Slots.{found-object, object-there}
use Rattle.model.proofs.Seeing.{same-tests, sought-occupied, sought-needed, needed-old}
use Rattle.model.proofs.Naming.{in-among, among-in, reference-there}
use Rattle.model.proofs.Reclaiming.{Closed, needed-closed, needed-least}
use Rattle.model.proofs.Freeing.{IsTest, Freed, freed-none, freed-through, freed-one, freed-left, lost-test, occupied-object}

-- ---- lists

pub among-end : {A : Type 0} (x : A) (xs : List A) → Among x (xs ++ x ∷ [])
among-end x [] = inl refl
among-end x (y ∷ ys) = inr (among-end x ys)

among-kept : {A : Type 0} (x : A) (xs ys : List A) → Among x xs → Among x (xs ++ ys)
among-kept x [] ys never = absurd never
among-kept x (z ∷ zs) ys (inl e) = inl e
among-kept x (z ∷ zs) ys (inr later) = inr (among-kept x zs ys later)

among-more : {A : Type 0} (x : A) (xs ys : List A) → Among x ys → Among x (xs ++ ys)
among-more x [] ys a = a
among-more x (z ∷ zs) ys a = inr (among-more x zs ys a)

pub among-parts : {A : Type 0} (x : A) (xs ys : List A) → Among x (xs ++ ys) → Among x xs
    ⊎ Among x ys
among-parts x [] ys a = inr a
among-parts x (z ∷ zs) ys (inl e) = inl (inl e)
among-parts x (z ∷ zs) ys (inr later) =
    ⊎_elim {C = Among x (z ∷ zs) ⊎ Among x ys} (λ here. inl (inr here)) (λ there. inr there)
    (among-parts x zs ys later)

unfound-set : (bs : List Bool) (k : ℕ) → k < length bs → get_or bs k false ≡ false
    → unfound (set bs k true) + 1 ≡ unfound bs
unfound-set [] k inside none = absurd (omega (arith, inside))
unfound-set (true ∷ bs) zero inside none = absurd cc
unfound-set (false ∷ bs) zero inside none = omega arith
unfound-set (true ∷ bs) (suc k) inside none = unfound-set bs k (omega (arith, inside)) none
unfound-set (false ∷ bs) (suc k) inside none =
    let rest = unfound-set bs k (omega (arith, inside)) none in omega (arith, rest)

-- ---- what references name

named-both : {own : ℕ} {h : Heap} (os qs : List (Option Ref)) (k : ℕ) → IsNamed own h (os ++ qs) k
    → IsNamed own h os k ⊎ IsNamed own h qs k
named-both {own} {h} os qs k is =
    let r : Ref = reference_in own h k in
    ⊎_elim {C = IsNamed own h os k ⊎ IsNamed own h qs k}
    (λ first. inl (record { there = is.there; named = among-in r (filled os) first }))
    (λ second. inr (record { there = is.there; named = among-in r (filled qs) second }))
    (among-parts r (filled os) (filled qs)
    (subst (Among r) (filled-append os qs) (in-among r (filled (os ++ qs)) is.named)))

named-first : {own : ℕ} {h : Heap} (os qs : List (Option Ref)) (k : ℕ) → IsNamed own h os k
    → IsNamed own h (os ++ qs) k
named-first {own} {h} os qs k is =
    let r : Ref = reference_in own h k in
    record {
      there = is.there;
      named = among-in r (filled (os ++ qs))
          (subst (Among r) (sym (filled-append os qs))
          (among-kept r (filled os) (filled qs) (in-among r (filled os) is.named)));
    }

named-second : {own : ℕ} {h : Heap} (os qs : List (Option Ref)) (k : ℕ) → IsNamed own h qs k
    → IsNamed own h (os ++ qs) k
named-second {own} {h} os qs k is =
    let r : Ref = reference_in own h k in
    record {
      there = is.there;
      named = among-in r (filled (os ++ qs))
          (subst (Among r) (sym (filled-append os qs))
          (among-more r (filled os) (filled qs) (in-among r (filled qs) is.named)));
    }

-- a slot that one reference names is that of the reference, and has its object
record Names (own : ℕ) (h : Heap) (r : Ref) (k : ℕ) : Type 0 where
  slot : r.slot ≡ k
  node : r.node ≡ own
  found : is_some (object_at h r) ≡ true

named-one : {own : ℕ} {h : Heap} (r : Ref) (k : ℕ) → IsNamed own h (Some r ∷ []) k
    → Names own h r k
named-one {own} {h} r k is =
    ⊎_elim {C = Names own h r k}
    (λ same.
    let found = occupied-object (slot_at h k) is.there in
    let there = object-there (slot_at h k) (generation_in (slot_at h k)) found.0 found.1 in
    let at : object_at h (reference_in own h k) ≡ Some found.0 = there in
    subst (λ (z : Ref). Names own h z k) same
    (record { slot = refl; node = refl; found = ap is_some at }))
    (λ never. absurd never)
    (in-among (reference_in own h k) (r ∷ []) is.named)

some-there : {A : Type 0} (o : Option A) → is_some o ≡ true → (x : A) × (o ≡ Some x)
some-there None h = absurd cc
some-there (Some x) h = (x, refl)

one-named : {own : ℕ} {h : Heap} (r : Ref) → r.node ≡ own → is_some (object_at h r) ≡ true
    → IsNamed own h (Some r ∷ []) r.slot
one-named {own = own} {h = h} r here is =
    let found = some-there (object_at h r) is in
    let there = found-object h r found.0 found.1 in
    record {
      there = ap is_occupied there;
      named = among-in (reference_in own h r.slot) (r ∷ [])
          (inl (reference-there own h r found.0 here there));
    }

-- a slot is found
noted-found : (s : Search) (k : ℕ) → k < length s.found → is_found (noted s k) k ≡ true
noted-found s k inside = get_or-set_same s.found k true false inside

noted-kept : (s : Search) (k j : ℕ) → k < length s.found → is_found s j ≡ true
    → is_found (noted s k) j ≡ true
noted-kept s k j inside found =
    ⊎_elim {C = is_found (noted s k) j ≡ true}
    (λ (e : j ≡ k). subst (λ (z : ℕ). is_found (noted s k) z ≡ true) (sym e)
    (noted-found s k inside))
    (λ (other : j ≢ k). get_or-set_other s.found k j true false other ∙ found)
    (cases_eq j k)

pub noted-was : (s : Search) (k j : ℕ) → is_found (noted s k) j ≡ true
    → (is_found s j ≡ true) ⊎ (j ≡ k)
noted-was s k j found =
    ⊎_elim {C = (is_found s j ≡ true) ⊎ (j ≡ k)}
    (λ (e : j ≡ k). inr e)
    (λ (other : j ≢ k). inl (sym (get_or-set_other s.found k j true false other) ∙ found))
    (cases_eq j k)

noted-left : (s : Search) (k j : ℕ) → Among j (noted s k).left → Among j s.left ⊎ (j ≡ k)
noted-left s k j a =
    ⊎_elim {C = Among j s.left ⊎ (j ≡ k)} (λ before. inl before)
    (λ last. ⊎_elim {C = Among j s.left ⊎ (j ≡ k)} (λ e. inr e) (λ never. absurd never) last)
    (among-parts j s.left (k ∷ []) a)

pub noted-work : (s : Search) (k : ℕ) → k < length s.found → is_found s k ≡ false
    → work_of (noted s k) ≡ work_of s
noted-work s k inside none =
    let fewer = unfound-set s.found k inside none in
    let more = length-append s.left (k ∷ []) in
    omega (arith, fewer, more)

-- ---- the steps of a search

module _ {own : ℕ} {h : Heap} where
  pub finds-new : (r : Ref) (s : Search) → r.slot < length s.found → is_new own h s r ≡ true
      → Finds own h (Some r ∷ []) s (noted s r.slot)
  finds-new r s inside new =
      let parts = and_parts (r.node == own) _ new in
      let rest = and_parts (not (is_found s r.slot)) _ parts.1 in
      let none : is_found s r.slot ≡ false = unknown (is_found s r.slot) rest.0 in
      let named = one-named {own = own} {h = h} r (eqb-true r.node own parts.0) rest.1 in
      record {
        width = length-set s.found r.slot true;
        keeps = λ k found. noted-kept s r.slot k inside found;
        waits = λ k a. among-kept k s.left (r.slot ∷ []) a;
        all = λ k is.
            let n : Names own h r k = named-one r k is in
            subst (λ (z : ℕ). is_found (noted s r.slot) z ≡ true) n.slot
            (noted-found s r.slot inside);
        new = λ k found.
            ⊎_elim {C = (is_found s k ≡ true)
            ⊎ (IsNamed own h (Some r ∷ []) k × Among k (noted s r.slot).left)}
            (λ before. inl before)
            (λ (e : k ≡ r.slot).
            inr (subst (λ (z : ℕ).
            IsNamed own h (Some r ∷ []) z × Among z (noted s r.slot).left) (sym e)
            (named, among-end r.slot s.left)))
            (noted-was s r.slot k found);
        left = λ k a.
            ⊎_elim {C = Among k s.left ⊎ (is_found (noted s r.slot) k ≡ true)}
            (λ before. inl before)
            (λ (e : k ≡ r.slot).
            inr (subst (λ (z : ℕ). is_found (noted s r.slot) z ≡ true) (sym e)
            (noted-found s r.slot inside)))
            (noted-left s r.slot k a);
        work = noted-work s r.slot inside none;
      }
    where
      unknown : (b : Bool) → not b ≡ true → b ≡ false
      unknown true h = absurd cc
      unknown false h = refl

  -- references are followed one after another
  pub finds-then : {os qs : List (Option Ref)} {a b c : Search} → Finds own h os a b
      → Finds own h qs b c → Finds own h (os ++ qs) a c
  finds-then {os} {qs} {a} {b} {c} first second = record {
    width = second.width ∙ first.width;
    keeps = λ k found. second.keeps k (first.keeps k found);
    waits = λ k is. second.waits k (first.waits k is);
    all = λ k is.
        ⊎_elim {C = is_found c k ≡ true}
        (λ before. second.keeps k (first.all k before)) (λ now. second.all k now)
        (named-both os qs k is);
    new = λ k found.
        ⊎_elim {C = (is_found a k ≡ true) ⊎ (IsNamed own h (os ++ qs) k × Among k c.left)}
        (λ before.
        ⊎_elim {C = (is_found a k ≡ true) ⊎ (IsNamed own h (os ++ qs) k × Among k c.left)}
        (λ old. inl old)
        (λ n. inr (named-first os qs k n.0, second.waits k n.1))
        (first.new k before))
        (λ n. inr (named-second os qs k n.0, n.1))
        (second.new k found);
    left = λ k is.
        ⊎_elim {C = Among k a.left ⊎ (is_found c k ≡ true)}
        (λ before.
        ⊎_elim {C = Among k a.left ⊎ (is_found c k ≡ true)}
        (λ old. inl old) (λ found. inr (second.keeps k found)) (first.left k before))
        (λ found. inr found)
        (second.left k is);
    work = second.work ∙ first.work;
  }

  -- one more of a list of references is followed
  pub finds-more : (os : List (Option Ref)) (i : ℕ) {a b c : Search} → i < length os
      → Finds own h (take i os) a b → Finds own h (get_or os i None ∷ []) b c
      → Finds own h (take (i + 1) os) a c
  finds-more os i {a} {b} {c} inside first second =
      subst (λ (qs : List (Option Ref)). Finds own h qs a c) (sym (take_more os i None inside))
      (finds-then first second)

-- ---- the shared ones come first

module _ {h : Heap} {n : ℕ} {s : Search} (old : Begins h n s) where
  pub begins-skip : is_shared (slot_at h n) ≡ false → Begins h (n + 1) s
  begins-skip not = record {
    width = old.width;
    all = λ k before is.
        ⊎_elim {C = is_found s k ≡ true}
        (λ (less : k < n). old.all k less is)
        (λ (last : n ≤ k).
        let e : k ≡ n = omega (arith, before, last) in
        absurd (both_ways (is_shared (slot_at h n)) not
        (subst (λ (z : ℕ). is_shared (slot_at h z) ≡ true) e is)))
        (cases_lt k n);
    shared = old.shared;
    waits = old.waits;
    found = old.found;
  }

  -- a block of slots without shared objects is passed over
  pub begins-past : (m : ℕ)
      → ((k : ℕ) → n ≤ k → k < m → is_shared (slot_at h k) ≡ false) → Begins h m s
  begins-past m none = record {
    width = old.width;
    all = λ k before is.
        ⊎_elim {C = is_found s k ≡ true}
        (λ (less : k < n). old.all k less is)
        (λ (from : n ≤ k). absurd (both_ways (is_shared (slot_at h k)) (none k from before) is))
        (cases_lt k n);
    shared = old.shared;
    waits = old.waits;
    found = old.found;
  }

  pub begins-next : n < length h.slots → is_shared (slot_at h n) ≡ true
      → Begins h (n + 1) (noted s n)
  begins-next within is =
      let inside : n < length s.found = omega (arith, within, old.width) in
      record {
        width = length-set s.found n true ∙ old.width;
        all = λ k before shared.
            ⊎_elim {C = is_found (noted s n) k ≡ true}
            (λ (less : k < n). noted-kept s n k inside (old.all k less shared))
            (λ (last : n ≤ k).
            let e : n ≡ k = omega (arith, before, last) in
            subst (λ (z : ℕ). is_found (noted s n) z ≡ true) e
            (noted-found s n inside))
            (cases_lt k n);
        shared = λ k found.
            ⊎_elim {C = is_shared (slot_at h k) ≡ true}
            (λ before. old.shared k before)
            (λ (e : k ≡ n). subst (λ (z : ℕ). is_shared (slot_at h z) ≡ true) (sym e) is)
            (noted-was s n k found);
        waits = λ k found.
            ⊎_elim {C = Among k (noted s n).left}
            (λ before. among-kept k s.left (n ∷ []) (old.waits k before))
            (λ (e : k ≡ n).
            subst (λ (z : ℕ). Among z (noted s n).left) (sym e) (among-end n s.left))
            (noted-was s n k found);
        found = λ k a.
            ⊎_elim {C = is_found (noted s n) k ≡ true}
            (λ before. noted-kept s n k inside (old.found k before))
            (λ (e : k ≡ n).
            subst (λ (z : ℕ). is_found (noted s n) z ≡ true) (sym e)
            (noted-found s n inside))
            (noted-left s n k a);
      }

-- ---- then the roots

-- a slot past the last one has no shared object
shared-within : (h : Heap) (k : ℕ) → is_shared (slot_at h k) ≡ true → k < length h.slots
shared-within h k is =
    ⊎_elim {C = k < length h.slots} (λ within. within)
    (λ past.
    absurd (let both : false ≡ true =
    sym (ap is_shared (get_or_past h.slots k Retired past)) ∙ is in cc))
    (cases_lt k (length h.slots))

pub begins-rooted : {own : ℕ} {h : Heap} {s t : Search} → Begins h (length h.slots) s
    → Finds own h (roots h) s t → Rooted own h t
begins-rooted {own} {h} {s} {t} old f =
    let closed = needed-closed own h in
    record {
      search = record {
        width = f.width ∙ old.width;
        needed = λ k found.
            ⊎_elim {C = is_needed own h k ≡ true}
            (λ before. closed.shared k (old.shared k before))
            (λ n. closed.rooted k n.0.there n.0.named)
            (f.new k found);
        found = λ k a.
            ⊎_elim {C = is_found t k ≡ true}
            (λ before. f.keeps k (old.found k before)) (λ found. found) (f.left k a);
        followed = λ j found.
            ⊎_elim {C = Among j t.left
            ⊎ ((k : ℕ) → IsNamed own h (places_in (slot_at h j)) k → is_found t k ≡ true)}
            (λ before. inl (f.waits j (old.waits j before))) (λ n. inl n.1) (f.new j found);
      };
      shared = λ k is. f.keeps k (old.all k (shared-within h k is) is);
      rooted = f.all;
    }

-- ---- and then the places of what was found

-- the last of those that are left is followed
rooted-followed : {own : ℕ} {h : Heap} {s t : Search} (j : ℕ) (left : List ℕ) → Rooted own h s
    → s.left ≡ left ++ j ∷ [] → Finds own h (places_in (slot_at h j)) (record s { left = left }) t
    → Rooted own h t
rooted-followed {own} {h} {s} {t} j left old last f =
    let closed = needed-closed own h in
    let here : is_found s j ≡ true =
    old.search.found j (subst (Among j) (sym last) (among-end j left)) in
    record {
      search = record {
        width = f.width ∙ old.search.width;
        needed = λ k found.
            ⊎_elim {C = is_needed own h k ≡ true}
            (λ before. old.search.needed k before)
            (λ n. closed.held j k (old.search.needed j here) n.0.there n.0.named)
            (f.new k found);
        found = λ k a.
            ⊎_elim {C = is_found t k ≡ true}
            (λ before. f.keeps k (old.search.found k
            (subst (Among k) (sym last) (among-kept k left (j ∷ []) before))))
            (λ found. found) (f.left k a);
        followed = λ i found.
            ⊎_elim {C = Among i t.left
            ⊎ ((k : ℕ) → IsNamed own h (places_in (slot_at h i)) k → is_found t k ≡ true)}
            (λ before. held i (old.search.followed i before)) (λ n. inl n.1) (f.new i found);
      };
      shared = λ k is. f.keeps k (old.shared k is);
      rooted = λ k is. f.keeps k (old.rooted k is);
    }
  where
    held : (i : ℕ)
        → Among i s.left
        ⊎ ((k : ℕ) → IsNamed own h (places_in (slot_at h i)) k → is_found s k ≡ true)
        → Among i t.left
        ⊎ ((k : ℕ) → IsNamed own h (places_in (slot_at h i)) k → is_found t k ≡ true)
    held i (inl waits) =
        ⊎_elim {C = Among i t.left
        ⊎ ((k : ℕ) → IsNamed own h (places_in (slot_at h i)) k → is_found t k ≡ true)}
        (λ before. inl (f.waits i before))
        (λ at.
        ⊎_elim {C = Among i t.left
        ⊎ ((k : ℕ) → IsNamed own h (places_in (slot_at h i)) k → is_found t k ≡ true)}
        (λ (e : i ≡ j).
        inr (λ k is. f.all k
        (subst (λ (z : ℕ). IsNamed own h (places_in (slot_at h z)) k) e is)))
        (λ never. absurd never) at)
        (among-parts i left (j ∷ []) (subst (Among i) last waits))
    held i (inr all) = inr (λ k is. f.keeps k (all k is))

-- the last of those that are left is taken, and then followed
pub rooted-next : {own : ℕ} {h : Heap} {s m t : Search} (j : ℕ) → Rooted own h s
    → m.found ≡ s.found → s.left ≡ m.left ++ j ∷ []
    → Finds own h (places_in (slot_at h j)) m t → Rooted own h t
rooted-next {own} {h} {s} {m} {t} j old found last f =
    rooted-followed j m.left old last
    (subst (λ (z : Search). Finds own h (places_in (slot_at h j)) z t)
    (ap (λ (bs : List Bool). record { found = bs; left = m.left }) found) f)

-- once none is left, exactly what is needed is found
pub rooted-done : {own : ℕ} {h : Heap} {s : Search} → Rooted own h s → s.left ≡ []
    → Tells own h s.found
rooted-done {own} {h} {s} old none k there =
    same-tests (is_found s k) (is_needed own h k) (old.search.needed k)
    (λ needed. needed-least own h (λ j. is_found s j ≡ true) closed k there needed)
  where
    held : (j k : ℕ)
        → Among j s.left
        ⊎ ((i : ℕ) → IsNamed own h (places_in (slot_at h j)) i → is_found s i ≡ true)
        → IsNamed own h (places_in (slot_at h j)) k → is_found s k ≡ true
    held j k (inl waits) is =
        absurd (let never : Among {A = ℕ} j [] = subst (Among j) none waits in never)
    held j k (inr all) is = all k is

    closed : Closed own h (λ j. is_found s j ≡ true)
    closed = record {
      shared = old.shared;
      rooted = λ k there named. old.rooted k (record { there = there; named = named });
      held = λ j k found there named.
          held j k (old.search.followed j found) (record { there = there; named = named });
    }

-- ---- freeing by what the search told

-- Two tests that only slots with an object pass, and that agree on the objects of a heap, free the
-- same of them.
record AreAlike (h : Heap) (lost gone : ℕ → Slot → Bool) : Type 0 where
  first : IsTest lost
  second : IsTest gone
  same : (k : ℕ) → is_occupied (slot_at h k) ≡ true
      → lost k (slot_at h k) ≡ gone k (slot_at h k)

module _ {h : Heap} {lost gone : ℕ → Slot → Bool} (a : AreAlike h lost gone) where
  alike-at : (k : ℕ) (g : Heap) → Freed h g → lost k (slot_at g k) ≡ gone k (slot_at g k)
  alike-at k g freed =
      ⊎_elim {C = lost k (slot_at g k) ≡ gone k (slot_at g k)}
      (λ there.
      let found = occupied-object (slot_at g k) there in
      let was = freed-left freed k (generation_in (slot_at g k)) found.0 found.1 in
      subst (λ (s : Slot). lost k s ≡ gone k s) (was ∙ sym found.1) (a.same k (ap is_occupied was)))
      (λ (none : is_occupied (slot_at g k) ≡ false).
      same-tests (lost k (slot_at g k)) (gone k (slot_at g k))
      (λ is. absurd (both_ways _ none (a.first k (slot_at g k) is)))
      (λ is. absurd (both_ways _ none (a.second k (slot_at g k) is))))
      (cases_Bool (is_occupied (slot_at g k)))

  free_one-alike : (k : ℕ) (s : Sweeping) → Freed h s.heap → free_one lost k s ≡ free_one gone k s
  unfolding free_one
  free_one-alike k s freed = rw (alike-at k s.heap freed) refl

  free_some-alike : (k n : ℕ) (s : Sweeping) → Freed h s.heap
      → free_some lost k n s ≡ free_some gone k n s
  free_some-alike k zero s freed = refl
  free_some-alike k (suc n) s freed =
      free_some-alike (k + 1) n (free_one lost k s)
      (freed-through freed (freed-one lost a.first k s))
      ∙ ap (free_some gone (k + 1) n) (free_one-alike k s freed)

missed-test : (scope : Scope) (found : ℕ → Bool) → IsTest (is_missed scope found)
missed-test scopes.All found k s h = lost-test found k s h
missed-test scopes.Young found k (Free g) h = absurd cc
missed-test scopes.Young found k (Occupied g o) h = refl
missed-test scopes.Young found k Retired h = absurd cc

missed-alike : (scope : Scope) (own : ℕ) (h : Heap) (found : List Bool)
    → Tells own (sought scope h) found
    → AreAlike h (is_missed scope (λ k. get_or found k false))
    (is_lost (is_needed own (seen scope h)))
missed-alike scope own h found tells = record {
  first = missed-test scope (λ k. get_or found k false);
  second = lost-test (is_needed own (seen scope h));
  same = by scope tells;
}
  where
    old-kept : (k : ℕ) (s : Slot) → slot_at h k ≡ s → is_recent s ≡ false
        → is_missed scopes.Young (λ k. get_or found k false) k s
        ≡ is_lost (is_needed own (seen scopes.Young h)) k s
    old-kept k (Free g) at old = refl
    old-kept k (Occupied g o) at old =
        ap (λ (b : Bool). b && not (get_or found k false)) old
        ∙ sym (ap not (needed-old own h k g o at old))
    old-kept k Retired at old = refl

    by : (z : Scope) → Tells own (sought z h) found → (k : ℕ) → is_occupied (slot_at h k) ≡ true
        → is_missed z (λ k. get_or found k false) k (slot_at h k)
        ≡ is_lost (is_needed own (seen z h)) k (slot_at h k)
    by scopes.All told k there =
        ap (λ (b : Bool). is_occupied (slot_at h k) && not b) (told k there)
    by scopes.Young told k there =
        ⊎_elim {C = is_missed scopes.Young (λ k. get_or found k false) k (slot_at h k)
        ≡ is_lost (is_needed own (seen scopes.Young h)) k (slot_at h k)}
        (λ recent.
        let at = sought-occupied h k ∙ recent in
        ap (λ (b : Bool). is_recent (slot_at h k) && not b)
        (told k at ∙ sought-needed own h k at)
        ∙ ap (λ (b : Bool). b && not (is_needed own (seen scopes.Young h) k))
        (recent ∙ sym there))
        (λ old. old-kept k (slot_at h k) refl old)
        (cases_Bool (is_recent (slot_at h k)))

pub reclaiming-told : (scope : Scope) (own : ℕ) (h : Heap) (found : List Bool)
    → Tells own (sought scope h) found
    → free_some (is_missed scope (λ k. get_or found k false)) 0 (length h.slots)
    (record { heap = h; freed = 0 })
    ≡ reclaiming scope own h
reclaiming-told scope own h found tells =
    free_some-alike (missed-alike scope own h found tells) 0 (length h.slots)
    (record { heap = h; freed = 0 }) (freed-none h)
