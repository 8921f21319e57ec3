-- An event frees nothing but what is listed before it.
use Rattle.std.proofs.Common.{◌≡◌, ℕ, zero, suc, ◌+◌, ◌-◌, ◌<◌, ◌≤◌, ◌++◌, ◌&&◌, ◌==◌, Bool, true, false, not, List, [], ◌∷◌, length, get_or-set_same, inl, inr, refl, sym, ap, ◌∙◌, subst, arith, Ok, map}
use Rattle.std.specs.Prelude.{filter}
use Rattle.std.proofs.lemmas.Bool.{cases_Bool, cases_eq, cases_lt, cond_both, eq-eqb, both_ways, not_from_true}
use Rattle.std.proofs.Math.Nat.{min-le_right}
use Rattle.ids.specs.declared.limits.TheConstants.{GREATEST_GENERATION}
use Rattle.ids.specs.declared.refusal.Refusal.{Refusal}
use Rattle.ids.specs.declared.refusal.Refusal.TheVariants.{LinkSpent, Memory}
use Rattle.model.specs.Checks.{AllPass, IsFirstRefusal, IsOkOrSpent, by_memory, guarded}
use Rattle.model.specs.Collecting.{Sweeping, free_one, free_some, generation_in, is_garbage, looked_at, sweeping, swept_slots, vacated, vacated_slot}
use Rattle.model.specs.Effects.{Effect}
use Rattle.model.specs.Reclaiming.{freed_within, is_in_scope, is_lost, is_needed, reclaimed, seen}
use Rattle.model.specs.Searching.{is_sought}
use Rattle.model.specs.State.{Object, Slot, Free, Occupied, Retired, Heap, LocalState, slot_at}
use Rattle.model.specs.Steps.{ack_of, checked, fits, made, tests}
use Rattle.model.specs.View.{Link, NodeView, ack_tests, let_go, used, view_act, view_after}
use Rattle.model.specs.declared.age.Scope.{Scope}
use Rattle.model.specs.declared.age.Scope.TheVariants as scopes
use Rattle.model.specs.declared.event.Answer.{Answer}
use Rattle.model.specs.declared.event.Event.{Event}
use Rattle.model.specs.declared.event.Event.TheVariants as event
use Rattle.model.proofs.Ages.{aged-there}
use Rattle.model.proofs.Checks.{guarded-ok, guarded-passes, passed-parts}
use Rattle.model.proofs.Lookups.{at_set_if}
use Rattle.model.proofs.Reclaiming.{needed-shared}
use Rattle.model.proofs.Seeing.{needed-old}
use Rattle.model.proofs.Shown.{view-ok}
use Rattle.model.proofs.Slots.{occupied-within}
use Rattle.c_handles.specs.Candidates.{AreFreed, candidates, is_left_out}
use Rattle.model.specs.Steps.{frees}
use Rattle.c_handles.specs.Gone.{entries_from, gone, has_generation, is_gone}
use Rattle.c_handles.proofs.Entries.{Lists, Test, and_gone, entries-alike, filter-entries, lists-gone}

-- ---- What stays in its slot

-- what isn't to be freed stays
stays-one : (lost : Test) (k : ℕ) (s : Sweeping) (j e : ℕ) (o : Object)
    → slot_at s.heap j ≡ Occupied e o → (k ≡ j → lost j (Occupied e o) ≡ false)
    → slot_at (free_one lost k s).heap j ≡ Occupied e o
unfolding free_one
stays-one lost k s j e o there kept =
    let here : Slot = slot_at s.heap k in
    let g : ℕ = generation_in here in
    cond_both (lost k here) (record { heap = vacated s.heap k g; freed = s.freed + 1 }) s
    (λ (z : Sweeping). slot_at z.heap j ≡ Occupied e o)
    (λ goes.
    at_set_if (λ z. z ≡ Occupied e o) s.heap.slots k j (vacated_slot g) Retired
    (λ (at : k ≡ j).
    absurd (both_ways _ (ap (λ (z : ℕ). lost z (slot_at s.heap z)) at ∙ ap (lost j) there
    ∙ kept at) goes))
    there)
    (λ _. there)

stays-some : (lost : Test) (k n : ℕ) (s : Sweeping) (j e : ℕ) (o : Object)
    → slot_at s.heap j ≡ Occupied e o
    → (k ≤ j → j < k + n → lost j (Occupied e o) ≡ false)
    → slot_at (free_some lost k n s).heap j ≡ Occupied e o
stays-some lost k zero s j e o there kept = there
stays-some lost k (suc n) s j e o there kept =
    stays-some lost (k + 1) n (free_one lost k s) j e o
    (stays-one lost k s j e o there
    (λ at. kept (omega (arith, at)) (omega (arith, at))))
    (λ from to. kept (omega (arith, from)) (omega (arith, to)))

has-own : (e : ℕ) (o : Object) {s : Slot} → s ≡ Occupied e o → has_generation e s ≡ true
has-own e o is = ap (has_generation e) is ∙ eq-eqb e e refl

-- The slots that pass the test are freed, from one on. In the later heap the rest has its objects.
record Freeing (lost : Test) (k n : ℕ) (s : Sweeping) (later : Heap) : Type 0 where
  has : (j e : ℕ) (o : Object) → slot_at (free_some lost k n s).heap j ≡ Occupied e o
      → has_generation e (slot_at later j) ≡ true

-- what is gone passed the test
gone-lost : {lost : Test} {k n : ℕ} {s : Sweeping} {later : Heap} → Freeing lost k n s later
    → (j : ℕ) (t : Slot) → slot_at s.heap j ≡ t → is_gone later j t ≡ true
    → (k ≤ j) × (j < k + n) × (lost j t ≡ true)
gone-lost f j (Free g) at gone = absurd cc
gone-lost {lost} {k} {n} {s} {later} f j (Occupied e o) at gone =
    let left : (k ≤ j → j < k + n → lost j (Occupied e o) ≡ false) → ⊥ =
    λ kept. both_ways _ (not_from_true _ (f.has j e o (stays-some lost k n s j e o at kept))) gone
    in
    elim (cases_lt j k) [
      | inl before ↦ absurd (left (λ from to. absurd (omega (arith, before, from))))
      | inr from ↦
          elim (cases_lt j (k + n)) [
            | inr past ↦ absurd (left (λ _ to. absurd (omega (arith, past, to))))
            | inl to ↦
                elim (cases_Bool (lost j (Occupied e o))) [
                  | inl is ↦ (from, to, is)
                  | inr isnt ↦ absurd (left (λ _ _. isnt))
                ]
          ]
    ]
gone-lost f j Retired at gone = absurd cc

-- ---- Sweeps and reclaims

pub sweep-lists : (p : LocalState) (count : ℕ)
    → Lists (λ _. is_garbage p.phases.cycle) p.heap (sweeping p count).heap p.phases.cursor
    (looked_at p count)
sweep-lists p count =
    let f : Freeing (λ _. is_garbage p.phases.cycle) p.phases.cursor (looked_at p count)
    (record { heap = p.heap; freed = 0 }) (sweeping p count).heap =
    record { has = λ j e o there. has-own e o there } in
    let few = min-le_right count (length p.heap.slots - p.phases.cursor) in
    record {
      within = elim (cases_lt p.phases.cursor (length p.heap.slots)) [
        | inl before ↦ inl (omega (arith, before, few))
        | inr past ↦ inr (omega (arith, past, few))
      ];
      all = λ j is. gone-lost f j (slot_at p.heap j) refl is;
    }

-- what is lost is within the scope
lost-scope : (scope : Scope) (own : ℕ) (h : Heap) (j : ℕ) (t : Slot) → slot_at h j ≡ t
    → is_lost (is_needed own (seen scope h)) j t ≡ true → is_in_scope scope t ≡ true
lost-scope scope own h j (Free g) at lost = absurd cc
lost-scope scopes.All own h j (Occupied e o) at lost =
    elim (cases_Bool o.shared) [
      | inl is ↦ absurd (both_ways _ (not_from_true _ (needed-shared own h j e o at is)) lost)
      | inr isnt ↦ ap not isnt
    ]
lost-scope scopes.Young own h j (Occupied e o) at lost =
    elim (cases_Bool (is_in_scope scopes.Young (Occupied e o))) [
      | inl is ↦ is
      | inr isnt ↦ absurd (both_ways _ (not_from_true _ (needed-old own h j e o at isnt)) lost)
    ]
lost-scope scope own h j Retired at lost = absurd cc

pub reclaim-lists : (p : LocalState) (scope : Scope)
    → Lists (λ _. is_in_scope scope) p.heap (reclaimed scope p.own p.heap) 0
    (length p.heap.slots)
reclaim-lists p scope =
    let within : Heap = freed_within scope p.own p.heap in
    let f : Freeing (is_lost (is_needed p.own (seen scope p.heap))) 0 (length p.heap.slots)
    (record { heap = p.heap; freed = 0 }) (reclaimed scope p.own p.heap) =
    record { has = λ j e o there. has-own e _ (aged-there within j e o there) } in
    record {
      within = inl (omega arith);
      all = λ j is.
          (let found = gone-lost f j (slot_at p.heap j) refl is in (
            found.0,
            found.1,
            lost-scope scope p.own p.heap j (slot_at p.heap j) refl found.2,
          ));
    }

-- ---- An answered event

-- the tests passed, and the node and the answer are what the event makes of it
record Answered (n new : NodeView) (e : Event) (a : Answer) : Type 0 where
  passed : AllPass (tests n.local e)
  local : new.local ≡ (made n.local (map used n.links) e).local
  answer : a ≡ (made n.local (map used n.links) e).answer

answered : (n new : NodeView) (e : Event) (a : Answer) → view_act n e ≡ Ok (new, a)
    → Answered n new e a
unfolding view_act
answered n new e a h =
    let x : Effect = made n.local (map used n.links) e in
    let heard : List (Bool × Refusal) = tests n.local e ++ ack_tests n (ack_of e) in
    let last : List (Bool × Refusal) = (fits (map used n.links) x.sends, LinkSpent) ∷ [] in
    let found = view-ok n new (let_go n.links (ack_of e)) _ a h in
    let same : x ≡ found.0 = guarded-ok (heard ++ last) x found.0 found.1 in
    let parts = passed-parts heard last (guarded-passes (heard ++ last) x found.0 found.1) in
    record {
      passed = (passed-parts (tests n.local e) (ack_tests n (ack_of e)) parts.0).0;
      local = ap (λ (v : NodeView). v.local) found.2
          ∙ ap (λ (z : Effect). z.local) (sym same);
      answer = found.3 ∙ ap (λ (z : Effect). z.answer) (sym same);
    }

-- what was listed before the event, without what the node still has
pub listed-gone : (n new : NodeView) (e : Event) (a : Answer) → frees e ≡ true
    → view_act n e ≡ Ok (new, a)
    → filter (is_left_out new.local.heap) (candidates n.local e)
    ≡ gone n.local.own n.local.heap new.local.heap
unfolding swept_slots
listed-gone n new (event.Sweep count) a is h =
    let p : LocalState = n.local in
    let was = answered n new (event.Sweep count) a h in
    let heap : new.local.heap ≡ (sweeping p count).heap =
    ap (λ (q : LocalState). q.heap) was.local in
    subst (λ (g : Heap). filter (is_left_out g) (candidates p (event.Sweep count))
    ≡ gone p.own p.heap g) (sym heap)
    (rw was.passed.0 (lists-gone p.own (sweep-lists p count)))
listed-gone n new (event.Reclaim scope) a is h =
    let p : LocalState = n.local in
    let was = answered n new (event.Reclaim scope) a h in
    let heap : new.local.heap ≡ reclaimed scope p.own p.heap =
    ap (λ (q : LocalState). q.heap) was.local in
    subst (λ (g : Heap). filter (is_left_out g) (candidates p (event.Reclaim scope))
    ≡ gone p.own p.heap g) (sym heap)
    (lists-gone p.own (reclaim-lists p scope))
listed-gone n new e a is h = absurd cc

-- a search doesn't go through objects outside its scope
pub unsought : (scope : Scope) (t : Slot) → is_sought scope t ≡ false
    → is_in_scope scope t ≡ false
unsought scopes.All (Free g) none = refl
unsought scopes.All (Occupied e o) none = absurd cc
unsought scopes.All Retired none = refl
unsought scopes.Young t none = none

-- ---- What a sweep lists is gone

-- the other slots stay
other-one : (lost : Test) (k : ℕ) (s : Sweeping) (j : ℕ) → (k ≡ j → ⊥)
    → slot_at (free_one lost k s).heap j ≡ slot_at s.heap j
unfolding free_one
other-one lost k s j other =
    let here : Slot = slot_at s.heap k in
    let g : ℕ = generation_in here in
    cond_both (lost k here) (record { heap = vacated s.heap k g; freed = s.freed + 1 }) s
    (λ (z : Sweeping). slot_at z.heap j ≡ slot_at s.heap j)
    (λ _.
    at_set_if (λ z. z ≡ slot_at s.heap j) s.heap.slots k j (vacated_slot g) Retired
    (λ (at : k ≡ j). absurd (other at)) refl)
    (λ _. refl)

earlier-some : (lost : Test) (k n : ℕ) (s : Sweeping) (j : ℕ) → j < k
    → slot_at (free_some lost k n s).heap j ≡ slot_at s.heap j
earlier-some lost k zero s j before = refl
earlier-some lost k (suc n) s j before =
    earlier-some lost (k + 1) n (free_one lost k s) j (omega (arith, before))
    ∙ other-one lost k s j (λ at. absurd (omega (arith, before, at)))

none-vacated : (e : ℕ) → has_generation e (vacated_slot e) ≡ false
none-vacated e =
    cond_both (e == GREATEST_GENERATION) Retired (Free (e + 1)) (λ z. has_generation e z ≡ false)
    (λ _. refl) (λ _. refl)

gone-one : (lost : Test) (k e : ℕ) (o : Object) (s : Sweeping) → slot_at s.heap k ≡ Occupied e o
    → lost k (Occupied e o) ≡ true
    → has_generation e (slot_at (free_one lost k s).heap k) ≡ false
unfolding free_one
gone-one lost k e o s there goes =
    let here : Slot = slot_at s.heap k in
    let g : ℕ = generation_in here in
    let same : g ≡ e = ap generation_in there in
    cond_both (lost k here) (record { heap = vacated s.heap k g; freed = s.freed + 1 }) s
    (λ (z : Sweeping). has_generation e (slot_at z.heap k) ≡ false)
    (λ _.
    ap (has_generation e) (get_or-set_same s.heap.slots k (vacated_slot g) Retired
    (occupied-within s.heap.slots k e o there))
    ∙ ap (λ (x : ℕ). has_generation e (vacated_slot x)) same
    ∙ none-vacated e)
    (λ isnt. absurd (both_ways _ isnt (ap (lost k) there ∙ goes)))

gone-some : (lost : Test) (k n j e : ℕ) (o : Object) (s : Sweeping)
    → slot_at s.heap j ≡ Occupied e o → lost j (Occupied e o) ≡ true → k ≤ j → j < k + n
    → has_generation e (slot_at (free_some lost k n s).heap j) ≡ false
gone-some lost k zero j e o s there goes from to = absurd (omega (arith, from, to))
gone-some lost k (suc n) j e o s there goes from to =
    elim (cases_eq k j) [
      | inl at ↦
          let here : slot_at s.heap k ≡ Occupied e o =
          ap (slot_at s.heap) at ∙ there in
          let lost-here : lost k (Occupied e o) ≡ true =
          ap (λ (z : ℕ). lost z (Occupied e o)) at ∙ goes in
          ap (has_generation e)
          (earlier-some lost (k + 1) n (free_one lost k s) j (omega (arith, at))
          ∙ ap (slot_at (free_one lost k s).heap) (sym at))
          ∙ gone-one lost k e o s here lost-here
      | inr other ↦
          gone-some lost (k + 1) n j e o (free_one lost k s)
          (other-one lost k s j other ∙ there) goes
          (omega (arith, from, other)) (omega (arith, to))
    ]

-- a slot that passes is gone later
passes-gone : (cycle : ℕ) (later : Heap) (j : ℕ) (t : Slot)
    → ((e : ℕ) (o : Object) → t ≡ Occupied e o → is_garbage cycle t ≡ true
    → has_generation e (slot_at later j) ≡ false)
    → (is_garbage cycle t && is_gone later j t) ≡ is_garbage cycle t
passes-gone cycle later j (Free g) goes = refl
passes-gone cycle later j (Occupied e o) goes =
    elim (cases_Bool (is_garbage cycle (Occupied e o))) [
      | inl is ↦
          ap (λ (b : Bool). b && is_gone later j (Occupied e o)) is
          ∙ ap not (goes e o refl is)
          ∙ sym is
      | inr isnt ↦ ap (λ (b : Bool). b && is_gone later j (Occupied e o)) isnt ∙ sym isnt
    ]
passes-gone cycle later j Retired goes = refl

sweep-frees : (p : LocalState) (count : ℕ)
    → filter (is_left_out (sweeping p count).heap)
    (entries_from (λ _. is_garbage p.phases.cycle) p.own p.heap p.phases.cursor
    (looked_at p count))
    ≡ entries_from (λ _. is_garbage p.phases.cycle) p.own p.heap p.phases.cursor
    (looked_at p count)
sweep-frees p count =
    let test : Test = λ _. is_garbage p.phases.cycle in
    let later : Heap = (sweeping p count).heap in
    filter-entries test p.own p.heap later p.phases.cursor (looked_at p count)
    ∙ entries-alike (and_gone test later) test p.own p.heap p.phases.cursor (looked_at p count)
    (λ j from to.
    passes-gone p.phases.cycle later j (slot_at p.heap j)
    (λ e o there is.
    gone-some test p.phases.cursor (looked_at p count) j e o
    (record { heap = p.heap; freed = 0 }) there (ap (is_garbage p.phases.cycle) (sym there) ∙ is)
    from to))

pub freed-all : (n new : NodeView) (e : Event) (a : Answer) → view_act n e ≡ Ok (new, a)
    → AreFreed e new.local.heap (candidates n.local e)
unfolding swept_slots
freed-all n new (event.Sweep count) a h =
    let p : LocalState = n.local in
    let was = answered n new (event.Sweep count) a h in
    let heap : new.local.heap ≡ (sweeping p count).heap =
    ap (λ (q : LocalState). q.heap) was.local in
    subst (λ (g : Heap). filter (is_left_out g) (candidates p (event.Sweep count))
    ≡ candidates p (event.Sweep count)) (sym heap)
    (rw was.passed.0 (sweep-frees p count))
freed-all n new e a h = tt

-- ---- No memory for the list

ok-or-spent : (n : NodeView) (links : List Link) (b : Bool) (x : Effect)
    → IsOkOrSpent (view_after n links (guarded ((b, LinkSpent) ∷ []) x))
ok-or-spent n links true x = tt
ok-or-spent n links false x = refl

spent : (n : NodeView) (e : Event)
    → IsOkOrSpent (view_after n (let_go n.links (ack_of e))
    (checked [] (map used n.links) (made n.local (map used n.links) e)))
spent n e =
    let x : Effect = made n.local (map used n.links) e in
    ok-or-spent n (let_go n.links (ack_of e)) (fits (map used n.links) x.sends) x

-- every test passed, so memory may run out
pub memory-first : (n : NodeView) (e : Event) → frees e ≡ true → AllPass (tests n.local e)
    → IsFirstRefusal true Memory (view_act n e)
unfolding view_act
memory-first n (event.Sweep count) is passed =
    by_memory refl (rw passed.0 (spent n (event.Sweep count)))
memory-first n (event.Reclaim scope) is passed =
    by_memory refl (rw passed.0 (spent n (event.Reclaim scope)))
memory-first n e is passed = absurd cc
