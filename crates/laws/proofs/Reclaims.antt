-- Private garbage goes: what a Reclaim of all leaves of a node is exactly what the node needs. A
-- Reclaim of the young leaves all old objects, and of the others those that the node needs.
use Rattle.std.proofs.Common.{◌≡◌, ◌≢◌, ◌⊎◌, ◌||◌, inl, inr, not, [], ℕ, zero, suc, ◌+◌, ◌<◌, ◌≤◌, true, false, List, length, get_or, cond, Bool, Option, None, Some, Ok, slice_get, refl, sym, ap, ◌∙◌, subst, ⊎_elim, arith}
use Rattle.std.specs.List.{count_by}
use Rattle.std.proofs.lemmas.Bool.{cases_lt, cases_Bool, cond_both, cond-true, cond-false, or_left, or_right, or_cases, both_ways}
use Rattle.std.proofs.lemmas.List.{get_or_past}
use Rattle.std.proofs.lemmas.List.Sums.{sum_by-set}
use Rattle.std.proofs.lemmas.Option.{slice_get-get_or, get_or_from_slice_get}
use Rattle.ids.specs.declared.names.Ref.{Ref}
use Rattle.model.specs.declared.age.Age.{Age}
use Rattle.model.specs.declared.age.Age.TheVariants as age
use Rattle.model.specs.declared.age.Scope.{Scope}
use Rattle.model.specs.declared.age.Scope.TheVariants as scope
use Rattle.model.specs.declared.event.Answer.{Answer}
use Rattle.model.specs.declared.event.Answer.TheVariants as answer
use Rattle.model.specs.declared.event.Event.TheVariants as event
use Rattle.model.specs.declared.event.Letter.{Letter}
use Rattle.model.specs.State.{Object, Slot, Free, Occupied, Retired, Heap, NodeState, slot_at, register_at}
use Rattle.model.specs.Heaps.{no_letter}
use Rattle.model.specs.Shading.{filled, roots}
use Rattle.model.specs.Collecting.{generation_in, places_in, vacated_slot, vacated, Sweeping, free_one, free_some}
use Rattle.model.specs.Heaps.{is_old}
use Rattle.model.specs.Reclaiming.{is_occupied, is_shared, is_young, seen_young, slot_seen_young, seen, reference_in, is_needed, is_lost, aging, slot_aged, reclaiming, reclaimed}
use Rattle.model.specs.Cuts.{Among}
use Rattle.model.proofs.Slots.{occupied-within, same-object}
use Rattle.model.proofs.Seeing.{seen-at, needed-old}
use Rattle.laws.proofs.Sums.{sum-aged}
use Rattle.model.specs.Steps.{act}
use Rattle.model.proofs.Naming.{reference-there, named-among}
use Rattle.model.proofs.Freeing.{IsTest, lost-test, occupied-object, vacated-empty}
use Rattle.model.proofs.Reclaiming.{Closed, needed-shared, needed-root, needed-place, needed-least}
use Rattle.laws.specs.Privacy.{Names, Needs, as_shared, in_register, in_letter, in_place, NeedsYoung, from_shared, from_remembered, from_register, from_letter, from_place, OnlyFrees, IsReclaimed, IsYoungReclaimed, PrivateGarbageGoes, YoungGarbageGoes}
use Rattle.laws.proofs.Lookups.{any-some}
use Rattle.laws.proofs.StepFacts.{act-ok}
use Rattle.laws.proofs.Invariant.{RootsAll}
use Rattle.laws.proofs.Dressing.{filled-among, option-holds, filled-all, all-roots, roots-all}
use Rattle.laws.proofs.ReclaimSteps.{ReclaimedHeap, reclaimed-heap}

-- ---- the test finds what is needed

module _ (own : ℕ) (h : Heap) where
  abbrev Found : Ref → Type 0
  Found r = (o : Object) → Names own h r o → is_needed own h r.slot ≡ true

  found-roots : RootsAll Found h
  found-roots =
      all-roots Found h (λ r a o names. needed-root own h r o names.0 names.1 a)

  -- what is needed passes the test
  needs-found : (r : Ref) → Needs own h r → Found r
  needs-found r (as_shared o names shared) x there =
      needed-shared own h r.slot r.generation o names.1 shared
  needs-found r (in_register k e) x there =
      any-some Found (register_at h k) r (found-roots.registers k) e x there
  needs-found r (in_letter k l e holds) x there =
      any-some Found (get_or h.letters k no_letter).reference r (found-roots.letters k)
      (ap (λ (z : Letter). z.reference) (get_or_from_slice_get h.letters k l no_letter e) ∙ holds)
      x there
  needs-found r (in_place holder o k needs names e) x there =
      needed-place own h holder.slot (names.1, needs-found holder needs o names) r there.0 there.1
      (filled-among o.places k r e)

  -- and what passes the test is needed
  roots-needed : RootsAll (Needs own h) h
  roots-needed = record {
    registers = λ k. option-holds (Needs own h) _ (λ r e. in_register k e);
    letters = λ k. option-holds (Needs own h) _ (λ r e. letter-needed k r e);
  }
    where
      letter-needed : (k : ℕ) (r : Ref) → (get_or h.letters k no_letter).reference ≡ Some r
          → Needs own h r
      letter-needed k r e =
          ⊎_elim {C = Needs own h r}
          (λ (inside : k < length h.letters).
          in_letter k (get_or h.letters k no_letter)
          (slice_get-get_or h.letters k no_letter inside) e)
          (λ (past : length h.letters ≤ k).
          absurd (let none : None ≡ Some r =
          sym (ap (λ (l : Letter). l.reference) (get_or_past h.letters k no_letter past)) ∙ e in
          cc))
          (cases_lt k (length h.letters))

  names-there : (k g : ℕ) (o : Object) → slot_at h k ≡ Occupied g o
      → Names own h (reference_in own h k) o
  names-there k g o there =
      (refl, there ∙ ap (λ (s : Slot). Occupied (generation_in s) o) (sym there))

  needs-closed : Closed own h (λ k. Needs own h (reference_in own h k))
  needs-closed = record {
    shared = λ k is. shared k (slot_at h k) refl is;
    rooted = λ k there named.
        roots-all (Needs own h) h roots-needed (reference_in own h k)
        (named-among own h k (roots h) named);
    held = λ j k needs there named.
        held j k (slot_at h j) refl needs
        (named-among own h k (places_in (slot_at h j)) named);
  }
    where
      shared : (k : ℕ) (s : Slot) → slot_at h k ≡ s → is_shared s ≡ true
          → Needs own h (reference_in own h k)
      shared k (Free g) there is = absurd cc
      shared k (Occupied g o) there is = as_shared o (names-there k g o there) is
      shared k Retired there is = absurd cc

      held : (j k : ℕ) (s : Slot) → slot_at h j ≡ s → Needs own h (reference_in own h j)
          → Among (reference_in own h k) (filled (places_in s))
          → Needs own h (reference_in own h k)
      held j k (Free g) there needs never = absurd never
      held j k (Occupied g o) there needs a =
          filled-all (Needs own h) o.places
          (λ i.
          option-holds (Needs own h) _ (λ r e.
          in_place (reference_in own h j) o i needs (names-there j g o there) e))
          (reference_in own h k) a
      held j k Retired there needs never = absurd never

  found-needs : (r : Ref) (o : Object) → Names own h r o → is_needed own h r.slot ≡ true
      → Needs own h r
  found-needs r o names found =
      subst (Needs own h) (reference-there own h r o names.0 names.1)
      (needed-least own h (λ k. Needs own h (reference_in own h k)) needs-closed r.slot
      (ap is_occupied names.1) found)

-- ---- the heap after a Reclaim of all

module _ {own : ℕ} {h g : Heap} (s : ReclaimedHeap (is_needed own h) h g) where
  still-there : (r : Ref) (o : Object) → Names own h r o → Needs own h r
      → Names own g r (aging o)
  still-there r o names needs =
      (names.0, s.keeps r.slot r.generation o names.1 (needs-found own h r needs o names))

  still-needed : (r : Ref) → Needs own h r → Needs own g r
  still-needed r (as_shared o names shared) =
      as_shared (aging o) (still-there r o names (as_shared o names shared)) shared
  still-needed r (in_register k e) =
      in_register k
      (ap (λ (z : List (Option Ref)). get_or z k None) s.less.registers ∙ e)
  still-needed r (in_letter k l e holds) =
      in_letter k l (ap (λ (z : List Letter). slice_get z k) s.less.letters ∙ e) holds
  still-needed r (in_place holder o k needs names e) =
      in_place holder (aging o) k (still-needed holder needs) (still-there holder o names needs) e

  was-needed : (r : Ref) (o : Object) → Names own g r o
      → (x : Object) × Names own h r x × (o ≡ aging x) × Needs own h r
  was-needed r o names =
      let x = s.left r.slot r.generation o names.1 in
      let before : Names own h r x.0 = (names.0, x.1) in (
        x.0,
        before,
        x.2,
        found-needs own h r x.0 before (s.needed r.slot r.generation o names.1),
      )

-- ---- what a search for young garbage finds

is-not_old : (a : Age) → a ≢ age.Old → is_old a ≡ false
is-not_old age.Young other = refl
is-not_old age.Remembered other = refl
is-not_old age.Old other = absurd (other refl)

not-old : (a : Age) → is_old a ≡ false → a ≢ age.Old
not-old a is e = both_ways (is_old a) is (ap is_old e)

slot-seen : (s : Slot) (g : ℕ) (o : Object) → slot_seen_young s ≡ Occupied g o
    → (x : Object) × (s ≡ Occupied g x) × (o ≡ seen_young x)
slot-seen (Free n) g o there = absurd cc
slot-seen (Occupied n x) g o there =
    let at : n ≡ g = cc in
    let same : seen_young x ≡ o = cc in
    (x, ap (λ (z : ℕ). Occupied z x) at, sym same)
slot-seen Retired g o there = absurd cc

module _ (own : ℕ) (h : Heap) where
  abbrev y : Heap
  y = seen scope.Young h

  names-seen : (r : Ref) (o : Object) → Names own h r o → Names own y r (seen_young o)
  names-seen r o names = (names.0, seen-at h r.slot ∙ ap slot_seen_young names.1)

  seen-names : (r : Ref) (o : Object) → Names own y r o
      → (x : Object) × Names own h r x × (o ≡ seen_young x)
  seen-names r o names =
      let found = slot-seen (slot_at h r.slot) r.generation o (sym (seen-at h r.slot) ∙ names.1) in
      (found.0, (names.0, found.1), found.2)

  young-seen : (r : Ref) → NeedsYoung own h r → Needs own y r
  young-seen r (from_shared o names shared) =
      as_shared (seen_young o) (names-seen r o names) (or_left o.shared _ shared)
  young-seen r (from_remembered o names is) =
      as_shared (seen_young o) (names-seen r o names)
      (or_right o.shared (not (is_young o.age)) (ap (λ (a : Age). not (is_young a)) is))
  young-seen r (from_register k e) = in_register k e
  young-seen r (from_letter k l e holds) = in_letter k l e holds
  young-seen r (from_place holder o k needs names other e) =
      in_place holder (seen_young o) k (young-seen holder needs) (names-seen holder o names)
      (ap (λ (z : List (Option Ref)). get_or z k None)
      (cond-false (is_old o.age) [] o.places (is-not_old o.age other)) ∙ e)

  -- it is the reference of an old object
  abbrev IsOld : Ref → Type 0
  IsOld r = (o : Object) × Names own h r o × (o.age ≡ age.Old)

  shared-young : (r : Ref) (x : Object) → Names own h r x
      → (x.shared || not (is_young x.age)) ≡ true → IsOld r ⊎ NeedsYoung own h r
  shared-young r x names is =
      ⊎_elim {C = IsOld r ⊎ NeedsYoung own h r} (λ shared. inr (from_shared x names shared))
      (λ grown. by x.age refl grown) (or_cases x.shared _ is)
    where
      by : (a : Age) → x.age ≡ a → not (is_young a) ≡ true → IsOld r ⊎ NeedsYoung own h r
      by age.Young at never = absurd cc
      by age.Remembered at grown = inr (from_remembered x names at)
      by age.Old at grown = inl (x, names, at)

  seen-young : (r : Ref) → Needs own y r → IsOld r ⊎ NeedsYoung own h r
  seen-young r (as_shared o names shared) =
      let x = seen-names r o names in
      shared-young r x.0 x.1 (subst (λ (z : Object). z.shared ≡ true) x.2 shared)
  seen-young r (in_register k e) = inr (from_register k e)
  seen-young r (in_letter k l e holds) = inr (from_letter k l e holds)
  seen-young r (in_place holder o k needs names e) =
      let x = seen-names holder o names in
      let held : get_or (cond (is_old x.0.age) [] x.0.places) k None ≡ Some r =
      subst (λ (z : Object). get_or z.places k None ≡ Some r) x.2 e in
      ⊎_elim {C = IsOld r ⊎ NeedsYoung own h r}
      (λ old.
      absurd (let none : None ≡ Some r =
      sym (ap (λ (z : List (Option Ref)). get_or z k None)
      (cond-true (is_old x.0.age) [] x.0.places old)) ∙ held in cc))
      (λ recent.
      ⊎_elim {C = IsOld r ⊎ NeedsYoung own h r}
      (λ was.
      absurd (let same : was.0 ≡ x.0 =
      same-object (slot_at h holder.slot) holder.generation was.0 x.0 was.1.1 x.1.1 in
      not-old x.0.age recent (ap (λ (z : Object). z.age) (sym same) ∙ was.2)))
      (λ needed.
      inr (from_place holder x.0 k needed x.1 (not-old x.0.age recent)
      (ap (λ (z : List (Option Ref)). get_or z k None)
      (sym (cond-false (is_old x.0.age) [] x.0.places recent)) ∙ held)))
      (seen-young holder needs))
      (cases_Bool (is_old x.0.age))

-- ---- the heap after a Reclaim of the young

module _ {own : ℕ} {h g : Heap} (s : ReclaimedHeap (is_needed own (seen scope.Young h)) h g) where
  old-stays : (r : Ref) (o : Object) → Names own h r o → o.age ≡ age.Old → Names own g r o
  old-stays r o names old = (
    names.0,
    s.keeps r.slot r.generation o names.1
        (needed-old own h r.slot r.generation o names.1
        (ap (λ (a : Age). not (is_old a)) old))
        ∙ ap (λ (a : Age). Occupied r.generation (record o { age = a })) (sym old),
  )

  young-kept : (r : Ref) (o : Object) → Names own h r o → NeedsYoung own h r
      → Names own g r (aging o)
  young-kept r o names needs = (
    names.0,
    s.keeps r.slot r.generation o names.1
        (needs-found own (seen scope.Young h) r (young-seen own h r needs) (seen_young o)
        (names-seen own h r o names)),
  )

  young-left : (r : Ref) (o : Object) → Names own g r o
      → (x : Object) × Names own h r x × (o ≡ aging x)
      × ((x.age ≡ age.Old) ⊎ NeedsYoung own h r)
  young-left r o names =
      let x = s.left r.slot r.generation o names.1 in
      let before : Names own h r x.0 = (names.0, x.1) in
      let needs : Needs own (seen scope.Young h) r =
      found-needs own (seen scope.Young h) r (seen_young x.0) (names-seen own h r x.0 before)
      (s.needed r.slot r.generation o names.1) in (
        x.0,
        before,
        x.2,
        ⊎_elim {C = (x.0.age ≡ age.Old) ⊎ NeedsYoung own h r}
            (λ was.
            inl
            (let same : was.0 ≡ x.0 =
            same-object (slot_at h r.slot) r.generation was.0 x.0 was.1.1 x.1 in
            ap (λ (z : Object). z.age) (sym same) ∙ was.2))
            (λ needed. inr needed)
            (seen-young own h r needs),
      )

-- ---- how many objects went

count-one : (lost : ℕ → Slot → Bool) → IsTest lost → (k : ℕ) (s : Sweeping)
    → count_by is_occupied s.heap.slots + s.freed
    ≡ (free_one lost k s).freed + count_by is_occupied (free_one lost k s).heap.slots
unfolding free_one
count-one lost test k s =
    let g : ℕ = generation_in (slot_at s.heap k) in
    cond_both (lost k (slot_at s.heap k))
    (record { heap = vacated s.heap k g; freed = s.freed + 1 }) s
    (λ (z : Sweeping). count_by is_occupied s.heap.slots + s.freed
    ≡ z.freed + count_by is_occupied z.heap.slots)
    (λ goes.
    let found = occupied-object (slot_at s.heap k) (test k (slot_at s.heap k) goes) in
    let one : ◌≡◌ {A = ℕ} (cond (is_occupied (slot_at s.heap k)) 1 0) 1 =
    ap (λ (z : Slot). cond {A = ℕ} (is_occupied z) 1 0) found.1 in
    let none : ◌≡◌ {A = ℕ} (cond (is_occupied (vacated_slot g)) 1 0) 0 =
    ap (λ (z : Bool). cond {A = ℕ} z 1 0) (vacated-empty g) in
    let sums = sum_by-set (λ (z : Slot). cond {A = ℕ} (is_occupied z) 1 0) s.heap.slots k
    (vacated_slot g) Retired (occupied-within s.heap.slots k g found.0 found.1) in
    omega (arith, one, none, sums))
    (λ _. omega arith)

count-some : (lost : ℕ → Slot → Bool) → IsTest lost → (k n : ℕ) (s : Sweeping)
    → count_by is_occupied s.heap.slots + s.freed
    ≡ (free_some lost k n s).freed + count_by is_occupied (free_some lost k n s).heap.slots
count-some lost test k zero s = omega arith
count-some lost test k (suc n) s =
    let first = count-one lost test k s in
    let others = count-some lost test (k + 1) n (free_one lost k s) in
    omega (arith, first, others)

-- ---- the theorems

-- what a Reclaim makes of a node
abbrev left : Scope → NodeState → NodeState
left z s = record s { local = record s.local { heap = reclaimed z s.local.own s.local.heap } }

only-frees : (z : Scope) (s : NodeState)
    → OnlyFrees s (left z s) (answer.Reclaimed (reclaiming z s.local.own s.local.heap).freed)
only-frees z s =
    let own : ℕ = s.local.own in
    let h : Heap = s.local.heap in
    let g : Heap = reclaimed z own h in
    let lost : ℕ → Slot → Bool = is_lost (is_needed own (seen z h)) in
    let heap = reclaimed-heap z own h in
    record {
      count = (
        (reclaiming z own h).freed,
        refl,
        (let w = count-some lost (lost-test (is_needed own (seen z h))) 0 (length h.slots)
            (record { heap = h; freed = 0 }) in
            let same : count_by is_occupied g.slots
            ≡ count_by is_occupied (reclaiming z own h).heap.slots =
            sum-aged (λ (s : Slot). cond (is_occupied s) 1 0) alike
            (reclaiming z own h).heap.slots in
            omega (arith, w, same)),
      );
      same =
          ap (λ (x : Heap). record s { local = record s.local { heap = x } })
          (ap (λ rs. record g { registers = rs }) heap.less.registers
          ∙ ap (λ ls. record g { registers = h.registers; letters = ls }) heap.less.letters);
    }
  where
    alike : (s : Slot) → cond {A = ℕ} (is_occupied (slot_aged s)) 1 0 ≡ cond (is_occupied s) 1 0
    alike (Free g) = refl
    alike (Occupied g o) = refl
    alike Retired = refl

-- what is true of a node, what a Reclaim makes of it and the answer is true of the event
event-leaves : (z : Scope) (P : NodeState → NodeState → Answer → Type 0)
    → ((s : NodeState)
    → P s (left z s) (answer.Reclaimed (reclaiming z s.local.own s.local.heap).freed))
    → (s t : NodeState) (a : Answer) → act s (event.Reclaim z) ≡ Ok (t, a) → P s t a
event-leaves z P holds s t a answered =
    let found = act-ok s (event.Reclaim z) t a answered in
    subst (λ (n : NodeState). P s n a) (sym found.state)
    (subst (P s (left z s)) (sym found.answer) (holds s))

pub private-garbage-goes : PrivateGarbageGoes
private-garbage-goes =
    event-leaves scope.All IsReclaimed
    (λ s.
    let heap = reclaimed-heap scope.All s.local.own s.local.heap in
    record {
      needed = λ r o names. still-needed heap r (was-needed heap r o names).3;
      kept = still-there heap;
      left = was-needed heap;
      rest = only-frees scope.All s;
    })

pub young-garbage-goes : YoungGarbageGoes
young-garbage-goes =
    event-leaves scope.Young IsYoungReclaimed
    (λ s.
    let heap = reclaimed-heap scope.Young s.local.own s.local.heap in
    record {
      stays = old-stays heap;
      kept = young-kept heap;
      left = young-left heap;
      rest = only-frees scope.Young s;
    })
