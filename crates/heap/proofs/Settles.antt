-- What isn't needed is freed in a heap in which the rest has become old.
use Rattle.std.proofs.Common.{◌≡◌, ◌≢◌, ◌==◌, ◌&&◌, ℕ, zero, suc, ◌+◌, ◌<◌, ◌≤◌, cond, Bool, true, false, not, List, [], ◌∷◌, length, map, set, get_or, inl, inr, filter, refl, sym, ap, ◌∙◌, subst, arith}
use Rattle.std.proofs.lemmas.Bool.{cases_Bool, cases_eq, cases_lt, cond_both, cond-true, both_ways}
use Rattle.std.proofs.lemmas.List.{map-set, length-map, length-set, get_or_past, get_or-set_same, get_or-set_other, set-get_or}
use Rattle.ids.specs.declared.limits.TheConstants.{GREATEST_GENERATION}
use Rattle.model.specs.declared.age.Scope.{Scope}
use Rattle.model.specs.declared.age.Scope.TheVariants as scopes
use Rattle.model.specs.State.{Slot, Free, Occupied, Retired, Heap, slot_at}
use Rattle.model.specs.Collecting.{generation_in, vacated_slot, vacated, Sweeping, free_one, free_some}
use Rattle.model.specs.Reclaiming.{is_occupied, is_recent, slot_aged, aged, left_grey}
use Rattle.model.specs.Searching.{is_sought, is_missed}
use Rattle.model.proofs.Ages.{aged-at, aged-skip, aged-past}
use Rattle.model.proofs.Lookups.{at_set_if}
use Rattle.heap.specs.Growing.{IsGrown}
use Rattle.heap.specs.Heap.{aged_at, freed_unless}
use Rattle.heap.proofs.Frees.{freed-none}

-- ---- slots that become old

pub aged-twice : (s : Slot) → slot_aged (slot_aged s) ≡ slot_aged s
aged-twice (Free g) = refl
aged-twice (Occupied g o) = refl
aged-twice Retired = refl

pub slot-old : (s : Slot) → is_recent (slot_aged s) ≡ false
slot-old (Free g) = refl
slot-old (Occupied g o) = refl
slot-old Retired = refl

-- if all becomes old anyway, it doesn't matter which is so before
pub aged-same : (h : Heap) (k : ℕ) → aged (aged_at h k) ≡ aged h
aged-same h k =
    let s : Slot = slot_at h k in
    let slots : List Slot = map slot_aged h.slots in
    ap (λ (z : List Slot). record h { slots = z })
    (map-set slot_aged h.slots k (slot_aged s)
    ∙ ap (set slots k) (aged-twice s ∙ sym (aged-at h k))
    ∙ set-get_or slots k Retired)

-- ---- two heaps that differ only in ages

-- the rest becomes old
abbrev grown : Sweeping → Sweeping
grown s = record { heap = aged s.heap; freed = s.freed }

-- of each of these, the same is freed from this slot on
record Near (lost : ℕ → Slot → Bool) (k : ℕ) (h g : Heap) : Type 0 where
  later : (j : ℕ) → k ≤ j → lost j (slot_at h j) ≡ lost j (slot_at g j)
  same : aged h ≡ aged g

near-later : {lost : ℕ → Slot → Bool} {k : ℕ} {h g : Heap} → Near lost k h g
    → Near lost (k + 1) h g
near-later near = record {
  later = λ j from. near.later j (omega (arith, from));
  same = near.same;
}

other-slot : (h : Heap) (k e j : ℕ) → k + 1 ≤ j → slot_at (vacated h k e) j ≡ slot_at h j
other-slot h k e j from =
    let differs : j ≢ k = λ is. absurd (omega (arith, from, is)) in
    get_or-set_other h.slots k j (vacated_slot e) Retired differs

-- an object of this generation goes from both
near-vacated : {lost : ℕ → Slot → Bool} {k : ℕ} {h g : Heap} (e : ℕ) → Near lost k h g
    → Near lost (k + 1) (vacated h k e) (vacated g k e)
near-vacated {lost} {k} {h} {g} e near =
    let gone : Heap → Heap = λ z. record z {
      slots = set z.slots k (slot_aged (vacated_slot e));
      free = cond (e == GREATEST_GENERATION) z.free (k ∷ z.free);
    } in
    let moved : (z : Heap) → aged (vacated z k e) ≡ gone (aged z) =
    λ z.
    ap (λ (slots : List Slot). record (vacated z k e) { slots = slots })
    (map-set slot_aged z.slots k (vacated_slot e)) in
    record {
      later = λ j from.
          ap (lost j) (other-slot h k e j from)
          ∙ near.later j (omega (arith, from))
          ∙ sym (ap (lost j) (other-slot g k e j from));
      same = moved h ∙ ap gone near.same ∙ sym (moved g);
    }

freed-goes : (lost : ℕ → Slot → Bool) (k n : ℕ) (h : Heap) → lost k (slot_at h k) ≡ true
    → free_one lost k (record { heap = h; freed = n })
    ≡ record { heap = vacated h k (generation_in (slot_at h k)); freed = n + 1 }
unfolding free_one
freed-goes lost k n h goes = cond-true (lost k (slot_at h k)) _ _ goes

generation-aged : (s : Slot) → generation_in (slot_aged s) ≡ generation_in s
generation-aged (Free g) = refl
generation-aged (Occupied g o) = refl
generation-aged Retired = refl

same-generation : (h g : Heap) (k : ℕ) → aged h ≡ aged g
    → generation_in (slot_at h k) ≡ generation_in (slot_at g k)
same-generation h g k same =
    sym (ap generation_in (aged-at h k) ∙ generation-aged (slot_at h k))
    ∙ ap (λ (z : Heap). generation_in (slot_at z k)) same
    ∙ ap generation_in (aged-at g k)
    ∙ generation-aged (slot_at g k)

near-freed : (lost : ℕ → Slot → Bool) (k m n : ℕ) {h g : Heap} → Near lost k h g
    → grown (free_some lost k m (record { heap = h; freed = n }))
    ≡ grown (free_some lost k m (record { heap = g; freed = n }))
near-freed lost k zero n near =
    ap (λ (z : Heap). record { heap = z; freed = n }) near.same
near-freed lost k (suc m) n {h} {g} near =
    let here = near.later k (omega arith) in
    let some : Sweeping → Sweeping = λ s. grown (free_some lost (k + 1) m s) in
    let e : ℕ = generation_in (slot_at g k) in
    elim (cases_Bool (lost k (slot_at g k))) [
      | inl goes ↦
          ap some (freed-goes lost k n h (here ∙ goes))
          ∙ ap (λ (x : ℕ). some (record { heap = vacated h k x; freed = n + 1 }))
          (same-generation h g k near.same)
          ∙ near-freed lost (k + 1) m (n + 1) (near-vacated e near)
          ∙ sym (ap some (freed-goes lost k n g goes))
      | inr stays ↦
          ap some (freed-none lost h k n (here ∙ stays))
          ∙ near-freed lost (k + 1) m n (near-later near)
          ∙ sym (ap some (freed-none lost g k n stays))
    ]

-- ---- what is old, or gone

vacated-old : (e : ℕ) → is_recent (vacated_slot e) ≡ false
vacated-old e =
    cond_both (e == GREATEST_GENERATION) Retired (Free (e + 1))
    (λ (s : Slot). is_recent s ≡ false) (λ _. refl) (λ _. refl)

freed-old : (lost : ℕ → Slot → Bool) (k j : ℕ) (s : Sweeping)
    → is_recent (slot_at s.heap j) ≡ false
    → is_recent (slot_at (free_one lost k s).heap j) ≡ false
unfolding free_one
freed-old lost k j s old =
    let e : ℕ = generation_in (slot_at s.heap k) in
    cond_both (lost k (slot_at s.heap k))
    (record { heap = vacated s.heap k e; freed = s.freed + 1 }) s
    (λ (z : Sweeping). is_recent (slot_at z.heap j) ≡ false)
    (λ _.
    at_set_if (λ (x : Slot). is_recent x ≡ false) s.heap.slots k j (vacated_slot e) Retired
    (λ _. vacated-old e) old)
    (λ _. old)

some-old : (lost : ℕ → Slot → Bool) (k m j : ℕ) (s : Sweeping)
    → is_recent (slot_at s.heap j) ≡ false
    → is_recent (slot_at (free_some lost k m s).heap j) ≡ false
some-old lost k zero j s old = old
some-old lost k (suc m) j s old =
    some-old lost (k + 1) m j (free_one lost k s) (freed-old lost k j s old)

-- the slot of what is lost
gone-old : (lost : ℕ → Slot → Bool) (k n : ℕ) (h : Heap) → lost k (slot_at h k) ≡ true
    → is_recent (slot_at (free_one lost k (record { heap = h; freed = n })).heap k) ≡ false
gone-old lost k n h goes =
    let e : ℕ = generation_in (slot_at h k) in
    ap (λ (s : Sweeping). is_recent (slot_at s.heap k)) (freed-goes lost k n h goes)
    ∙ elim (cases_lt k (length h.slots)) [
      | inl within ↦
          ap is_recent (get_or-set_same h.slots k (vacated_slot e) Retired within) ∙ vacated-old e
      | inr past ↦ ap is_recent (get_or_past (vacated h k e).slots k Retired (rw length-set past))
    ]

one-other : (lost : ℕ → Slot → Bool) (k j : ℕ) (s : Sweeping) → k + 1 ≤ j
    → slot_at (free_one lost k s).heap j ≡ slot_at s.heap j
unfolding free_one
one-other lost k j s from =
    let e : ℕ = generation_in (slot_at s.heap k) in
    cond_both (lost k (slot_at s.heap k))
    (record { heap = vacated s.heap k e; freed = s.freed + 1 }) s
    (λ (z : Sweeping). slot_at z.heap j ≡ slot_at s.heap j)
    (λ _. other-slot s.heap k e j from) (λ _. refl)

-- each of these slots is old, or what it has is lost
some-gone : (lost : ℕ → Slot → Bool) (k m j : ℕ) (s : Sweeping) → k ≤ j → j < k + m
    → (is_recent (slot_at s.heap j) ≡ true → lost j (slot_at s.heap j) ≡ true)
    → is_recent (slot_at (free_some lost k m s).heap j) ≡ false
some-gone lost k zero j s from to goes = absurd (omega (arith, from, to))
some-gone lost k (suc m) j s from to goes =
    elim (cases_Bool (is_recent (slot_at s.heap j))) [
      | inr old ↦ some-old lost k (suc m) j s old
      | inl recent ↦
          elim (cases_eq j k) [
            | inl e ↦
                some-old lost (k + 1) m j (free_one lost k s)
                (subst (λ (i : ℕ). is_recent (slot_at (free_one lost k s).heap i) ≡ false) (sym e)
                (gone-old lost k s.freed s.heap
                (subst (λ (i : ℕ). lost i (slot_at s.heap i) ≡ true) e (goes recent))))
            | inr differs ↦
                let later : k + 1 ≤ j = omega (arith, from, differs) in
                let same = one-other lost k j s later in
                some-gone lost (k + 1) m j (free_one lost k s) later (omega (arith, to))
                (λ is.
                ap (lost j) same ∙ goes (sym (ap is_recent same) ∙ is))
          ]
    ]

-- ---- all together

missed-same : (scope : Scope) {h g : Heap} {found : List Bool} → IsGrown h g found → (k : ℕ)
    → is_missed scope (λ i. get_or found i false) k (slot_at g k)
    ≡ is_missed scope (λ i. get_or found i false) k (slot_at h k)
missed-same scope {h} {g} {found} grown k =
    elim (cases_Bool (get_or found k false)) [
      | inl is ↦ stays (slot_at g k) is ∙ sym (stays (slot_at h k) is)
      | inr none ↦
          ap (is_missed scope (λ (i : ℕ). get_or found i false) k) (grown.rest k none)
    ]
  where
    and-false : (x : Bool) → x && false ≡ false
    and-false true = refl
    and-false false = refl

    stays : (s : Slot) → get_or found k false ≡ true
        → is_missed scope (λ (i : ℕ). get_or found i false) k s ≡ false
    stays s is = ap (λ (b : Bool). is_sought scope s && not b) is ∙ and-false (is_sought scope s)

-- what isn't found and isn't old is lost
recent-missed : (scope : Scope) (s : Slot) (b : Bool) → is_recent s ≡ true → b ≡ false
    → is_sought scope s && not b ≡ true
recent-missed scopes.All (Free g) b recent none = absurd cc
recent-missed scopes.All (Occupied g o) b recent none = ap not none
recent-missed scopes.All Retired b recent none = absurd cc
recent-missed scopes.Young s b recent none =
    ap (λ (x : Bool). x && not b) recent ∙ ap not none

width-same : (h g : Heap) → aged g ≡ aged h → length g.slots ≡ length h.slots
width-same h g same =
    sym (length-map g.slots slot_aged)
    ∙ ap (λ (z : Heap). length z.slots) same
    ∙ length-map h.slots slot_aged

-- Freeing in the heap that has grown frees the same, and leaves all old.
pub record Settled (scope : Scope) (h g : Heap) (found : List Bool) : Type 0 where
  pub heap : (freed_unless scope found g).heap ≡ aged (freed_unless scope found h).heap
  pub freed : (freed_unless scope found g).freed ≡ (freed_unless scope found h).freed
  pub old : (k : ℕ) → is_recent (slot_at (freed_unless scope found g).heap k) ≡ false

pub settled : (scope : Scope) {h g : Heap} {found : List Bool} → IsGrown h g found
    → Settled scope h g found
settled scope {h} {g} {found} grew =
    let lost = is_missed scope (λ (i : ℕ). get_or found i false) in
    let first : Sweeping = record { heap = g; freed = 0 } in
    let near : Near lost 0 g h =
    record { later = λ j _. missed-same scope grew j; same = grew.same } in
    let all = near-freed lost 0 (length g.slots) 0 near
    ∙ ap (λ (n : ℕ). grown (free_some lost 0 n (record { heap = h; freed = 0 })))
    (width-same h g grew.same) in
    let old : (k : ℕ) → is_recent (slot_at (freed_unless scope found g).heap k) ≡ false = λ k.
    elim (cases_lt k (length g.slots)) [
      | inl within ↦
          some-gone lost 0 (length g.slots) k first (omega arith) (omega (arith, within))
          (λ recent.
          elim (cases_Bool (get_or found k false)) [
            | inl is ↦ absurd (both_ways (is_recent (slot_at g k)) (grew.old k is) recent)
            | inr none ↦ recent-missed scope (slot_at g k) (get_or found k false) recent none
          ])
      | inr past ↦
          some-old lost 0 (length g.slots) k first
          (ap is_recent (get_or_past g.slots k Retired past))
    ] in
    record {
      heap = all-old (freed_unless scope found g).heap old
          ∙ ap (λ (s : Sweeping). s.heap) all;
      freed = ap (λ (s : Sweeping). s.freed) all;
      old = old;
    }
  where
    all-old : (z : Heap) → ((k : ℕ) → is_recent (slot_at z k) ≡ false) → z ≡ aged z
    all-old z old =
        sym (aged-skip z 0 (length z.slots) (λ j from to. old j)
        ∙ aged-past z (0 + length z.slots) (omega arith))

-- ---- the grey list

filter-alike : (p q : ℕ → Bool) → ((k : ℕ) → p k ≡ q k) → (ks : List ℕ)
    → filter p ks ≡ filter q ks
filter-alike p q same [] = refl
filter-alike p q same (k ∷ ks) = rw (same k, filter-alike p q same ks) refl

occupied-aged : (s : Slot) → is_occupied (slot_aged s) ≡ is_occupied s
occupied-aged (Free g) = refl
occupied-aged (Occupied g o) = refl
occupied-aged Retired = refl

-- old objects leave the grey list as others do
pub grey-aged : (h : Heap) → left_grey (aged h) ≡ left_grey h
grey-aged h =
    filter-alike (λ (k : ℕ). is_occupied (slot_at (aged h) k))
    (λ (k : ℕ). is_occupied (slot_at h k))
    (λ k. ap is_occupied (aged-at h k) ∙ occupied-aged (slot_at h k)) h.grey
