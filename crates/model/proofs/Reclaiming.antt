-- What is needed in a node's heap is closed: the places of what is needed name only what is needed.
-- And nothing less is closed.
use Rattle.std.proofs.Common.{◌≡◌, ℕ, zero, suc, ◌+◌, ◌<◌, ◌≤◌, Bool, true, false, cond, ◌⊎◌, List, length, get_or, refl, sym, ap, subst, ⊎_elim, inl, inr, arith, le_refl}
use Rattle.std.specs.Prelude.{◌&&◌}
use Rattle.std.proofs.lemmas.Bool.{cases_Bool, cases_lt, and_parts, and_from, or_cases, or_left, or_right, both_ways}
use Rattle.ids.specs.declared.names.Ref.{Ref}
use Rattle.model.specs.State.{Object, Slot, Free, Occupied, Retired, Heap, slot_at}
use Rattle.model.specs.Shading.{filled, roots}
use Rattle.model.specs.Collecting.{places_in}
use Rattle.model.specs.Reclaiming.{is_occupied, is_shared, reference_in, is_named, any_below, is_needed_in, is_needed}
use Rattle.model.specs.Cuts.{Among}
use Rattle.model.proofs.Slots.{slot-within}
use Rattle.model.proofs.Naming.{named-there, named-among}

-- What is shared has the property, and so does what roots name, and what the places of an object
-- with the property name.
pub record Closed (own : ℕ) (h : Heap) (P : ℕ → Type 0) : Type 0 where
  pub shared : (k : ℕ) → is_shared (slot_at h k) ≡ true → P k
  pub rooted : (k : ℕ) → is_occupied (slot_at h k) ≡ true → is_named own h k (roots h) ≡ true → P k
  pub held : (j k : ℕ) → P j → is_occupied (slot_at h k) ≡ true
      → is_named own h k (places_in (slot_at h j)) ≡ true → P k

-- ---- tests on the numbers below a bound

any-from : (n : ℕ) (test : ℕ → Bool) (k : ℕ) → k < n → test k ≡ true → any_below n test ≡ true
any-from zero test k inside h = absurd (omega (arith, inside))
any-from (suc n) test k inside h = ⊎_elim {C = any_below (suc n) test ≡ true}
    (λ (before : k < n). or_right (test n) (any_below n test) (any-from n test k before h))
    (λ (last : n ≤ k).
    let e : k ≡ n = omega (arith, inside, last) in
    or_left (test n) (any_below n test) (subst (λ (z : ℕ). test z ≡ true) e h))
    (cases_lt k n)

any-found : (n : ℕ) (test : ℕ → Bool) → any_below n test ≡ true
    → (k : ℕ) × (k < n) × (test k ≡ true)
any-found zero test h = absurd cc
any-found (suc n) test h = ⊎_elim {C = (k : ℕ) × (k < suc n) × (test k ≡ true)}
    (λ last. (n, omega arith, last))
    (λ before.
    let found = any-found n test before in
    (found.0, (let w = found.1 in omega (arith, w)), found.2))
    (or_cases (test n) (any_below n test) h)

-- how many numbers below a bound pass the test
count : ℕ → (ℕ → Bool) → ℕ
count zero test = 0
count (suc n) test = cond (test n) 1 0 + count n test

one-or-none : (b : Bool) → cond b 1 0 ≤ 1
one-or-none true = omega arith
one-or-none false = omega arith

count-within : (n : ℕ) (test : ℕ → Bool) → count n test ≤ n
unfolding count
count-within zero test = omega arith
count-within (suc n) test =
    let first = one-or-none (test n) in
    let others = count-within n test in
    omega (arith, first, others)

-- every number below the bound that passes the second test passes the first
abbrev Within : ℕ → (ℕ → Bool) → (ℕ → Bool) → Type 0
Within n f g = (k : ℕ) → k < n → g k ≡ true → f k ≡ true

within-more : (n : ℕ) (f g : ℕ → Bool) → (g n ≡ true → f n ≡ true) → Within n f g
    → Within (suc n) f g
within-more n f g at before k inside h = ⊎_elim {C = f k ≡ true}
    (λ (less : k < n). before k less h)
    (λ (last : n ≤ k).
    let e : k ≡ n = omega (arith, inside, last) in
    subst (λ (z : ℕ). f z ≡ true) (sym e) (at (subst (λ (z : ℕ). g z ≡ true) e h)))
    (cases_lt k n)

-- Let one test pass whatever another one does. Then it passes the same numbers, or more of them.
module _ (f g : ℕ → Bool) (grows : (k : ℕ) → f k ≡ true → g k ≡ true) where
  one-grows : (k : ℕ) → cond (f k) 1 0 ≤ cond (g k) 1 0
  one-grows k = ⊎_elim {C = cond (f k) 1 0 ≤ cond (g k) 1 0}
      (λ is. rw (grows k is, is) (le_refl 1)) (λ isnt. rw (isnt) (omega arith))
      (cases_Bool (f k))

  count-grows : (n : ℕ) → count n f ≤ count n g
  unfolding count
  count-grows zero = le_refl 0
  count-grows (suc n) =
      let first = one-grows n in let others = count-grows n in omega (arith, first, others)

  same-or-more : (n : ℕ) → Within n f g ⊎ (count n f < count n g)
  unfolding count
  same-or-more zero = inl (λ k inside h. absurd (omega (arith, inside)))
  same-or-more (suc n) = ⊎_elim
      {C = Within (suc n) f g ⊎ (count (suc n) f < count (suc n) g)}
      (λ same. at same (cases_Bool (f n)) (cases_Bool (g n)))
      (λ more. inr (let first = one-grows n in omega (arith, first, more)))
      (same-or-more n)
    where
      at : Within n f g → (f n ≡ true) ⊎ (f n ≡ false) → (g n ≡ true) ⊎ (g n ≡ false)
          → Within (suc n) f g ⊎ (count (suc n) f < count (suc n) g)
      at same (inl is) now = inl (within-more n f g (λ _. is) same)
      at same (inr isnt) (inl now) =
          inr (let others = count-grows n in rw (isnt, now) (omega (arith, others)))
      at same (inr isnt) (inr never) =
          inl (within-more n f g (λ now. absurd (both_ways (g n) never now)) same)

-- ---- rounds of a search

-- Each round finds what the last one did, and more only if the last one found more than the one
-- before it. Then the round of the bound's number finds all that the next one does.
record Rounds (n : ℕ) (f : ℕ → ℕ → Bool) : Type 0 where
  grows : (round k : ℕ) → f round k ≡ true → f (suc round) k ≡ true
  settles : (round : ℕ) → Within n (f round) (f (suc round))
      → Within n (f (suc round)) (f (suc (suc round)))

module _ {n : ℕ} {f : ℕ → ℕ → Bool} (r : Rounds n f) where
  settled-or-more : (round : ℕ)
      → Within n (f round) (f (suc round)) ⊎ (round < count n (f (suc round)))
  settled-or-more zero = ⊎_elim
      {C = Within n (f zero) (f 1) ⊎ (0 < count n (f 1))}
      (λ same. inl same) (λ more. inr (omega (arith, more)))
      (same-or-more (f zero) (f 1) (r.grows zero) n)
  settled-or-more (suc round) = ⊎_elim
      {C = Within n (f (suc round)) (f (suc (suc round)))
      ⊎ (suc round < count n (f (suc (suc round))))}
      (λ settled. inl (r.settles round settled))
      (λ before. ⊎_elim
      {C = Within n (f (suc round)) (f (suc (suc round)))
      ⊎ (suc round < count n (f (suc (suc round))))}
      (λ same. inl same) (λ more. inr (omega (arith, before, more)))
      (same-or-more (f (suc round)) (f (suc (suc round))) (r.grows (suc round)) n))
      (settled-or-more round)

  last-round : Within n (f n) (f (suc n))
  last-round = ⊎_elim {C = Within n (f n) (f (suc n))}
      (λ settled. settled)
      (λ more. absurd (let most = count-within n (f (suc n)) in omega (arith, more, most)))
      (settled-or-more n)

-- ---- what is needed

-- a slot with places has an object
places-there : (s : Slot) (r : Ref) → Among r (filled (places_in s)) → is_occupied s ≡ true
places-there (Free g) r never = absurd never
places-there (Occupied g o) r a = refl
places-there Retired r never = absurd never

occupied-in : (slots : List Slot) (k : ℕ) → is_occupied (get_or slots k Retired) ≡ true
    → k < length slots
occupied-in slots k there =
    slot-within slots k (λ (e : get_or slots k Retired ≡ Retired).
    (let wrong : is_occupied Retired ≡ true =
    subst (λ (s : Slot). is_occupied s ≡ true) e there in cc))

module _ (own : ℕ) (h : Heap) where
  -- an object that was found by this round holds a reference to what is in the slot
  abbrev holds : ℕ → ℕ → ℕ → Bool
  holds round k j = is_needed_in round own h j && is_named own h k (places_in (slot_at h j))

  pub holder-there : (j k : ℕ) → is_named own h k (places_in (slot_at h j)) ≡ true
      → is_occupied (slot_at h j) ≡ true
  holder-there j k named =
      places-there (slot_at h j) (reference_in own h k)
      (named-among own h k (places_in (slot_at h j)) named)

  -- what any round finds is found by all later ones
  from-start : (round k : ℕ) → is_needed_in zero own h k ≡ true
      → is_needed_in round own h k ≡ true
  from-start zero k found = found
  from-start (suc round) k found =
      or_left (is_needed_in round own h k) _ (from-start round k found)

  -- what the places of a found object name is found in the next round
  next-found : (round j k : ℕ) → is_needed_in round own h j ≡ true
      → is_named own h k (places_in (slot_at h j)) ≡ true
      → is_needed_in (suc round) own h k ≡ true
  next-found round j k needed named =
      or_right (is_needed_in round own h k) _
      (any-from (length h.slots) (holds round k) j (occupied-in h.slots j (holder-there j k named))
      (and_from (is_needed_in round own h j) _ needed named))

  rounds : Rounds (length h.slots) (λ round. is_needed_in round own h)
  rounds = record {
    grows = λ round k found. or_left (is_needed_in round own h k) _ found;
    settles = λ round settled k inside found.
        ⊎_elim {C = is_needed_in (suc round) own h k ≡ true}
        (λ before. before)
        (λ now.
        let holder = any-found (length h.slots) (holds (suc round) k) now in
        let parts = and_parts (is_needed_in (suc round) own h holder.0) _ holder.2 in
        next-found round holder.0 k (settled holder.0 holder.1 parts.0) parts.1)
        (or_cases (is_needed_in (suc round) own h k)
        (any_below (length h.slots) (holds (suc round) k)) found);
  }

  object-occupied : (k g : ℕ) (o : Object) → slot_at h k ≡ Occupied g o
      → is_occupied (slot_at h k) ≡ true
  object-occupied k g o there = ap is_occupied there

  pub needed-closed : Closed own h (λ k. is_needed own h k ≡ true)
  needed-closed = record {
    shared = λ k is. from-start (length h.slots) k (or_left (is_shared (slot_at h k)) _ is);
    rooted = λ k there named.
        from-start (length h.slots) k (or_right (is_shared (slot_at h k)) _ named);
    held = λ j k needed there named.
        last-round rounds k (occupied-in h.slots k there)
        (next-found (length h.slots) j k needed named);
  }

  pub needed-shared : (k g : ℕ) (o : Object) → slot_at h k ≡ Occupied g o → o.shared ≡ true
      → is_needed own h k ≡ true
  needed-shared k g o there is =
      needed-closed.shared k (subst (λ (s : Slot). is_shared s ≡ true) (sym there) is)

  pub needed-root : (r : Ref) (o : Object) → r.node ≡ own
      → slot_at h r.slot ≡ Occupied r.generation o → Among r (filled (roots h))
      → is_needed own h r.slot ≡ true
  needed-root r o here there a =
      needed-closed.rooted r.slot (object-occupied r.slot r.generation o there)
      (named-there own h (roots h) r o here there a)

  -- an object that is there and needed has it in a place
  pub needed-place : {g : ℕ} {holder o : Object} (j : ℕ)
      → (slot_at h j ≡ Occupied g holder) × (is_needed own h j ≡ true) → (r : Ref) → r.node ≡ own
      → slot_at h r.slot ≡ Occupied r.generation o → Among r (filled holder.places)
      → is_needed own h r.slot ≡ true
  needed-place {o = o} j held r here there a =
      needed-closed.held j r.slot held.1 (object-occupied r.slot r.generation o there)
      (named-there own h (places_in (slot_at h j)) r o here there
      (subst (λ (s : Slot). Among r (filled (places_in s))) (sym held.0) a))

  -- whatever else is closed has it all
  pub needed-least : (P : ℕ → Type 0) → Closed own h P → (k : ℕ)
      → is_occupied (slot_at h k) ≡ true → is_needed own h k ≡ true → P k
  needed-least P closed k there needed = least (length h.slots) k there needed
    where
      least : (round k : ℕ) → is_occupied (slot_at h k) ≡ true → is_needed_in round own h k ≡ true
          → P k
      least zero k there found = ⊎_elim {C = P k}
          (λ shared. closed.shared k shared) (λ named. closed.rooted k there named)
          (or_cases (is_shared (slot_at h k)) _ found)
      least (suc round) k there found = ⊎_elim {C = P k}
          (λ before. least round k there before)
          (λ now.
          let holder = any-found (length h.slots) (holds round k) now in
          let parts = and_parts (is_needed_in round own h holder.0) _ holder.2 in
          closed.held holder.0 k
          (least round holder.0 (holder-there holder.0 k parts.1) parts.0) there parts.1)
          (or_cases (is_needed_in round own h k) _ found)
