-- The heap after an object in the arena is freed, and freeing slot by slot, as a sweep and a
-- reclaim do.
use Rattle.std.proofs.Common.{◌≡◌, ℕ, zero, suc, ◌+◌, ◌-◌, ◌<◌, ◌≤◌, ◌==◌, if◌then◌else◌, Bool, true, false, not, ◌&&◌, cond, List, ◌∷◌, length, set, get_or, is_some, min, inl, inr, refl, sym, ap, ◌∙◌, arith}
use Rattle.std.proofs.lemmas.Bool.{cases_lt, cond-true, cond-false}
use Rattle.std.proofs.lemmas.List.{map-set, get_or_past}
use Rattle.std.proofs.Math.ListN.{get_or-map}
use Rattle.std.proofs.Math.Nat.{min-eq_left, min-eq_right}
use Rattle.arena.specs.Arena.{Arena, key_of, freed, retired, emptied, discarded}
use Rattle.arena_slot.specs.Slot.{value_of}
use Rattle.arena.specs.Arena as arena
use Rattle.arena_slot.specs.Slot as entries
use Rattle.ids.specs.declared.limits.TheConstants.{GREATEST_GENERATION}
use Rattle.arena.specs.declared.Key.{Key}
use Rattle.arena_slot.specs.declared.Slot.{Slot}
use Rattle.arena_slot.specs.declared.Slot.TheVariants.{Free, Occupied, Retired}
use Rattle.model.specs.State.{Object, Heap, slot_at}
use Rattle.model.specs.State as state
use Rattle.model.specs.Collecting as collecting
use Rattle.model.specs.Collecting.{Sweeping, is_garbage, generation_in, free_one, free_some}
use Rattle.model.specs.declared.age.Scope.{Scope}
use Rattle.model.specs.Reclaiming.{is_occupied}
use Rattle.model.specs.Searching.{is_sought, is_missed}
use Rattle.model.proofs.Freeing.{freed-skip}
use Rattle.heap.specs.Heap.{slot_of}
use Rattle.heap.specs.Stored.{view_of}
use Rattle.heap.specs.declared.heap.Heap.TheInside.{Inside}

-- the heap with these objects in place of its own
abbrev heap_with : Inside → Arena Object → Heap
heap_with h a = (view_of (record h { objects = a })).heap

vacated_by : (b : Bool) (h : Inside) (key : Key)
    → heap_with h (if b then retired h.objects key else freed h.objects key)
    ≡ record (view_of h).heap {
      slots = set (view_of h).heap.slots key.slot
          (cond b state.Retired (state.Free (key.generation + 1)));
      free = cond b h.objects.free (key.slot ∷ h.objects.free);
    }
vacated_by true h key =
    ap (λ (slots : List state.Slot). record (view_of h).heap { slots = slots })
    (map-set slot_of h.objects.slots key.slot Retired)
vacated_by false h key =
    ap (λ (slots : List state.Slot). record (view_of h).heap {
      slots = slots;
      free = key.slot ∷ h.objects.free;
    })
    (map-set slot_of h.objects.slots key.slot (Free (key.generation + 1)))

-- the arena and the definitions agree about a slot whose object is removed
pub vacated-stored : (h : Inside) (key : Key)
    → heap_with h (arena.vacated h.objects key)
    ≡ collecting.vacated (view_of h).heap key.slot key.generation
vacated-stored h key = vacated_by (key.generation == GREATEST_GENERATION) h key

-- the slot keeps what it has
pub freed-none : (lost : ℕ → state.Slot → Bool) (h : Heap) (slot n : ℕ)
    → lost slot (slot_at h slot) ≡ false
    → free_one lost slot (record { heap = h; freed = n }) ≡ record { heap = h; freed = n }
unfolding free_one
freed-none lost h slot n kept = cond-false (lost slot (slot_at h slot)) _ _ kept

-- freeing the object in a slot, if there is one and it is lost
record Discards (lost : ℕ → state.Slot → Bool) (h : Inside) (slot : ℕ) (s : Slot Object) (n : ℕ)
    : Type 0 where
  done : free_one lost slot (record { heap = (view_of h).heap; freed = n })
      ≡ record {
        heap = heap_with h (emptied (key_of slot (entries.generation_in s)) h.objects);
        freed = cond (is_some (key_of slot (entries.generation_in s))) (n + 1) n;
      }

discards-slot : (lost : ℕ → state.Slot → Bool) (h : Inside) (slot n : ℕ) (s : Slot Object)
    → slot_at (view_of h).heap slot ≡ slot_of s → lost slot (slot_of s) ≡ is_occupied (slot_of s)
    → Discards lost h slot s n
unfolding free_one
discards-slot lost h slot n (Free g) read goes =
    record { done = freed-none lost (view_of h).heap slot n (rw read goes) }
discards-slot lost h slot n Retired read goes =
    record { done = freed-none lost (view_of h).heap slot n (rw read goes) }
discards-slot lost h slot n (Occupied g o) read goes =
    let key : Key = record { slot = slot; generation = g } in
    let old : Heap = (view_of h).heap in
    let next : Heap → Sweeping = λ x. record { heap = x; freed = n + 1 } in
    record {
      done = cond-true (lost slot (slot_at old slot))
          (next (collecting.vacated old slot (generation_in (slot_at old slot))))
          (record { heap = old; freed = n })
          (rw read goes)
          ∙ ap (λ (x : state.Slot). next (collecting.vacated old slot (generation_in x))) read
          ∙ ap next (sym (vacated-stored h key));
    }

-- to discard what is in a slot is to free it, if whatever is there is lost
pub discards : (lost : ℕ → state.Slot → Bool) (h : Inside) (slot n : ℕ)
    → lost slot (slot_at (view_of h).heap slot) ≡ is_occupied (slot_at (view_of h).heap slot)
    → free_one lost slot (record { heap = (view_of h).heap; freed = n })
    ≡ record {
      heap = heap_with h (discarded h.objects slot);
      freed = cond (is_some (arena.key_at h.objects slot)) (n + 1) n;
    }
discards lost h slot n goes =
    let s : Slot Object = get_or h.objects.slots slot Retired in
    let read : slot_at (view_of h).heap slot ≡ slot_of s =
    get_or-map slot_of h.objects.slots slot Retired in
    (discards-slot lost h slot n s read (rw read at goes)).done

-- sweeping stops once everything that was requested is swept, or every slot that was used
pub stops-after : (last most used slot : ℕ) → used ≤ most → min (min last most) used ≤ slot
    → slot < last → used ≤ slot
stops-after last most used slot within past left =
    elim (cases_lt (min last most) used) [
      | inl less ↦
          let first : min last most ≤ used = omega (arith, less) in
          elim (cases_lt last most) [
            | inl few ↦
                let all : last ≤ most = omega (arith, few) in
                absurd (omega (arith, past, left, min-eq_left first, min-eq_left all))
            | inr many ↦ omega (arith, past, within, min-eq_left first, min-eq_right many)
          ]
      | inr more ↦ omega (arith, past, min-eq_right more)
    ]

-- past the last slot nothing is left to be freed
pub freed-past : (lost : ℕ → state.Slot → Bool)
    → ((k : ℕ) → lost k state.Retired ≡ false) → (k n : ℕ) (s : Sweeping)
    → (0 < n → length s.heap.slots ≤ k) → free_some lost k n s ≡ s
freed-past lost never k zero s past = refl
freed-past lost never k (suc n) s past =
    let here : length s.heap.slots ≤ k = past (omega arith) in
    let none = ap (lost k) (get_or_past s.heap.slots k state.Retired here) ∙ never k in
    ap (free_some lost (k + 1) n) (freed-none lost s.heap k s.freed none)
    ∙ freed-past lost never (k + 1) n s (λ _. omega (arith, here))

-- freeing in the rest is freeing in the next slot and then in the others
pub freed-next : (lost : ℕ → state.Slot → Bool) (slot last : ℕ) (s : Sweeping) → slot < last
    → free_some lost slot (last - slot) s
    ≡ free_some lost (slot + 1) (last - (slot + 1)) (free_one lost slot s)
freed-next lost slot last s before =
    let count : last - slot ≡ suc (last - (slot + 1)) = omega arith in
    ap (λ (n : ℕ). free_some lost slot n s) count

-- slots that lose nothing are passed over
pub freed-jump : (lost : ℕ → state.Slot → Bool) (k m last : ℕ) (s : Sweeping) → k ≤ m → m ≤ last
    → ((j : ℕ) → k ≤ j → j < m → lost j (slot_at s.heap j) ≡ false)
    → free_some lost k (last - k) s ≡ free_some lost m (last - m) s
freed-jump lost k m last s before within none =
    let count : last - k ≡ m - k + (last - m) = omega (arith, before, within) in
    let reach : k + (m - k) ≡ m = omega (arith, before) in
    ap (λ (n : ℕ). free_some lost k n s) count
    ∙ freed-skip lost k (m - k) (last - m) s (λ j from to. none j from (omega (arith, to, reach)))
    ∙ ap (λ (i : ℕ). free_some lost i (last - m) s) reach

-- ---- freeing what isn't needed

-- what is needed stays
pub needed-stays : (scope : Scope) {b : Bool} → b ≡ true → (k : ℕ) (s : state.Slot)
    → is_missed scope (λ _. b) k s ≡ false
needed-stays scope is k s =
    ap (λ (x : Bool). is_sought scope s && not x) is ∙ and-false (is_sought scope s)
  where
    and-false : (x : Bool) → x && false ≡ false
    and-false true = refl
    and-false false = refl

-- so does what the search passes over
pub passed-stays : (scope : Scope) (needed : ℕ → Bool) (k : ℕ) (s : state.Slot)
    → is_sought scope s ≡ false → is_missed scope needed k s ≡ false
passed-stays scope needed k s over = ap (λ (x : Bool). x && not (needed k)) over

-- what isn't needed goes, if it is there
pub other-goes : (scope : Scope) {b : Bool} → b ≡ false → (k : ℕ) (s : state.Slot)
    → is_sought scope s ≡ is_occupied s → is_missed scope (λ _. b) k s ≡ is_occupied s
other-goes scope isnt k s through =
    ap (λ (x : Bool). is_sought scope s && not x) isnt
    ∙ and-true (is_sought scope s)
    ∙ through
  where
    and-true : (x : Bool) → x && true ≡ x
    and-true true = refl
    and-true false = refl

-- so does garbage
pub garbage-goes : (cycle : ℕ) (s : state.Slot) → is_garbage cycle s ≡ true
    → is_garbage cycle s ≡ is_occupied s
garbage-goes cycle (state.Free g) found = absurd cc
garbage-goes cycle (state.Occupied g o) found = found
garbage-goes cycle state.Retired found = absurd cc

-- what the list says of one slot is all that counts there
pub lost-here : (scope : Scope) (needed : ℕ → Bool) (b : Bool) (k : ℕ) (s : Sweeping)
    → b ≡ needed k
    → free_one (is_missed scope (λ _. b)) k s ≡ free_one (is_missed scope needed) k s
unfolding free_one
lost-here scope needed b k s is =
    ap (λ (x : Bool). cond (is_missed scope (λ _. x) k (slot_at s.heap k))
    (record {
      heap = collecting.vacated s.heap k (generation_in (slot_at s.heap k));
      freed = s.freed + 1;
    })
    s) is
