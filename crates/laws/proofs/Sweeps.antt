-- The invariant after a node has swept some of its slots, and after it has reported that it is
-- done.
use Rattle.std.proofs.Common.{◌≡◌, ◌≢◌, ℕ, zero, suc, ◌+◌, ◌<◌, ◌≤◌, ◌⊎◌, ◌==◌, eqb, Bool, true, false, List, [], ◌∷◌, length, get_or, set, Option, None, refl, sym, ap, ◌∙◌, subst, ⊎_elim, inl, arith, le_refl, get_or-set_same}
use Rattle.std.specs.List.{AllByRecursion, IsDistinct}
use Rattle.std.proofs.lemmas.Bool.{cases_lt, cases_Bool, cond_both, cond-true, cond-false, eq-eqb, ne_eqb, eqb-true, both_ways, not_from_true, not-false}
use Rattle.ids.specs.declared.limits.TheConstants.{GREATEST_GENERATION}
use Rattle.ids.specs.Limits.{Shaped}
use Rattle.ids.specs.declared.names.Ref.{Ref}
use Rattle.msg.specs.declared.body.Body.{Body}
use Rattle.msg.specs.declared.body.Body.TheVariants as body
use Rattle.msg.specs.declared.body.Message.{Message}
use Rattle.model.specs.declared.age.Age.{Age}
use Rattle.model.specs.declared.age.Scope.{Scope}
use Rattle.model.specs.State.{Object, Slot, Free, Occupied, Retired, Heap, LocalState, slot_at}
use Rattle.model.specs.Heaps.{no_letter}
use Rattle.model.specs.Counting.{is_idle, stamped}
use Rattle.model.specs.Collecting.{is_garbage, generation_in, vacated_slot, vacated_free, vacated, Sweeping, free_one, free_some, sweep_some}
use Rattle.model.specs.Reclaiming.{reclaiming, freed_within, reclaimed}
use Rattle.model.specs.Shading.{is_open}
use Rattle.model.specs.References.{IfAny}
use Rattle.model.specs.Steps.{append_all, mentioned}
use Rattle.model.specs.Cuts.{Cut, IsInFlight, Among, Becomes}
use Rattle.model.proofs.Lookups.{all-map, at_set_if}
use Rattle.model.proofs.Slots.{occupied-within}
use Rattle.model.proofs.Ages.{aged-back}
use Rattle.model.proofs.Freeing.{IsTest, garbage-test, occupied-object, Freed, freed-none, freed-left, freed-through, freed-one, freed-reclaiming}
use Rattle.laws.proofs.Lookups.{any-map, among-filter}
use Rattle.laws.proofs.Turns.{Turn, at_turn, flew}
use Rattle.laws.proofs.Base.{base-step, unheard}
use Rattle.laws.proofs.Tallies.{tally-same, tallies-turn}
use Rattle.laws.proofs.Inner.{roots-map, resting-joined, sweeping-resting}
use Rattle.laws.proofs.Slots.{still-free}
use Rattle.laws.proofs.Invariant.{phases_of, cycle_of, Marking, Resting, Joined, Safe, Holds, RootsAll, PlacesAll, IsFree, FreeSlots, Tidy, Phased, BodyFits, Inv}
use Rattle.laws.proofs.Light.{Speaks, speaks-flows}
use Rattle.laws.proofs.RingSteps.{token-back, flew-one}
use Rattle.laws.proofs.PhaseSteps.{SaidAlike, fits-moved, Says, says-turn, says-inv}

vacant : (g e : ℕ) (y : Object) → vacated_slot g ≡ Occupied e y → ⊥
vacant g e y =
    cond_both (g == GREATEST_GENERATION) Retired (Free (g + 1)) (λ z. z ≡ Occupied e y → ⊥)
    (λ _ h. absurd cc) (λ _ h. absurd cc)

-- its slot isn't among the free ones
named-apart : (slots : List Slot) (j g : ℕ) (o : Object) (ks : List ℕ)
    → get_or slots j Retired ≡ Occupied g o
    → AllByRecursion (λ k. IsFree (get_or slots k Retired)) ks
    → AllByRecursion (λ k. eqb j k ≡ false) ks
named-apart slots j g o [] there all = tt
named-apart slots j g o (k ∷ ks) there all = (
  ne_eqb j k (λ (e : j ≡ k).
      absurd (let both : IsFree (Occupied g o) =
      subst IsFree (ap (λ (z : ℕ). get_or slots z Retired) (sym e) ∙ there) all.0 in cc)),
  named-apart slots j g o ks there all.1,
)

vacated-free : (slots : List Slot) (j g : ℕ) (o : Object) (ks : List ℕ)
    → get_or slots j Retired ≡ Occupied g o → FreeSlots slots ks
    → FreeSlots (set slots j (vacated_slot g)) (vacated_free j g ks)
unfolding IsDistinct
vacated-free slots j g o ks there f =
    let apart = named-apart slots j g o ks there f.free in
    let inside : j < length slots = occupied-within slots j g o there in
    let placed : get_or (set slots j (vacated_slot g)) j Retired ≡ vacated_slot g =
    get_or-set_same slots j (vacated_slot g) Retired inside in
    let others = still-free slots j (vacated_slot g) ks f.free apart in
    ⊎_elim {C = FreeSlots (set slots j (vacated_slot g)) (vacated_free j g ks)}
    (λ last.
    subst (λ (z : List ℕ). FreeSlots (set slots j (vacated_slot g)) z)
    (sym (cond-true (g == GREATEST_GENERATION) ks (j ∷ ks) last))
    (record { free = others; once = f.once }))
    (λ more.
    subst (λ (z : List ℕ). FreeSlots (set slots j (vacated_slot g)) z)
    (sym (cond-false (g == GREATEST_GENERATION) ks (j ∷ ks) more))
    (record {
      free = (
        subst IsFree (sym (placed
            ∙ cond-false (g == GREATEST_GENERATION) Retired (Free (g + 1)) more)) refl,
        others,
      );
      once = (apart, f.once);
    }))
    (cases_Bool (g == GREATEST_GENERATION))

-- ---- a heap in which slots from one number up to another were looked at

-- The objects there that pass a test were freed.
pub record Cleared (lost : ℕ → Slot → Bool) (from to : ℕ) (h g : Heap) : Type 0 where
  pub freed : Freed h g
  -- what doesn't pass the test is left, and nothing else
  pub keeps : (k e : ℕ) (x : Object) → slot_at h k ≡ Occupied e x
      → lost k (Occupied e x) ≡ false → slot_at g k ≡ Occupied e x
  pub stays : (k e : ℕ) (y : Object) → slot_at g k ≡ Occupied e y → from ≤ k → k < to
      → lost k (Occupied e y) ≡ false
  pub free : FreeSlots h.slots h.free → FreeSlots g.slots g.free

cleared-none : (lost : ℕ → Slot → Bool) (from : ℕ) (h : Heap) → Cleared lost from from h h
cleared-none lost from h = record {
  freed = freed-none h;
  keeps = λ k e x there not_lost. there;
  stays = λ k e y there least most. absurd (omega (arith, least, most));
  free = λ f. f;
}

cleared-one : (lost : ℕ → Slot → Bool) → IsTest lost → (k : ℕ) (s : Sweeping)
    → Cleared lost k (k + 1) s.heap (free_one lost k s).heap
unfolding free_one
cleared-one lost test k s =
    let g : ℕ = generation_in (slot_at s.heap k) in
    let w : Sweeping = record { heap = vacated s.heap k g; freed = s.freed + 1 } in
    let here : Slot = slot_at s.heap k in
    let same : (j : ℕ) → k ≡ j → lost k here ≡ lost j (slot_at s.heap j) =
    λ j at. ap (λ (z : ℕ). lost z (slot_at s.heap z)) at in
    record {
      freed = freed-one lost test k s;
      keeps = λ j e x there not_lost.
          cond_both (lost k here) w s (λ (z : Sweeping). slot_at z.heap j ≡ Occupied e x)
          (λ goes.
          at_set_if (λ z. z ≡ Occupied e x) s.heap.slots k j (vacated_slot g) Retired
          (λ (at : k ≡ j).
          absurd (both_ways _ (same j at ∙ ap (lost j) there ∙ not_lost) goes))
          there)
          (λ _. there);
      stays = λ j e y there least most.
          (let at : k ≡ j = omega (arith, least, most) in
          cond_both (lost k here) w s
          (λ (z : Sweeping). slot_at z.heap j ≡ Occupied e y → lost j (Occupied e y) ≡ false)
          (λ goes now.
          let found = occupied-object here (test k here goes) in
          absurd (vacant g e y (sym (get_or-set_same s.heap.slots k (vacated_slot g) Retired
          (occupied-within s.heap.slots k g found.0 found.1))
          ∙ ap (λ (z : ℕ). get_or (set s.heap.slots k (vacated_slot g)) z Retired) at
          ∙ now)))
          (λ clean now. ap (lost j) (sym now) ∙ sym (same j at) ∙ clean)
          there);
      free = cond_both (lost k here) w s
          (λ (z : Sweeping).
          FreeSlots s.heap.slots s.heap.free → FreeSlots z.heap.slots z.heap.free)
          (λ goes.
          let found = occupied-object here (test k here goes) in
          vacated-free s.heap.slots k g found.0 s.heap.free found.1)
          (λ _ f. f);
    }

cleared-through : {lost : ℕ → Slot → Bool} {a b z : ℕ} {h f g : Heap} → Cleared lost a b h f
    → Cleared lost b z f g → Cleared lost a z h g
cleared-through {lost = lost} {b = b} x y = record {
  freed = freed-through x.freed y.freed;
  keeps = λ k e o there not_lost. y.keeps k e o (x.keeps k e o there not_lost) not_lost;
  stays = λ k e o there least most. ⊎_elim {C = lost k (Occupied e o) ≡ false}
      (λ (below : k < b). x.stays k e o (freed-left y.freed k e o there) least below)
      (λ (past : b ≤ k). y.stays k e o there past most)
      (cases_lt k b);
  free = λ f. y.free (x.free f);
}

pub cleared-some : (lost : ℕ → Slot → Bool) → IsTest lost → (k n : ℕ) (s : Sweeping)
    → Cleared lost k (k + n) s.heap (free_some lost k n s).heap
cleared-some lost test k zero s =
    subst (λ (z : ℕ). Cleared lost k z s.heap s.heap) (let e : k ≡ k + 0 = omega arith in e)
    (cleared-none lost k s.heap)
cleared-some lost test k (suc n) s =
    subst
    (λ (z : ℕ). Cleared lost k z s.heap (free_some lost (k + 1) n (free_one lost k s)).heap)
    (let e : k + 1 + n ≡ k + suc n = omega arith in e)
    (cleared-through (cleared-one lost test k s)
    (cleared-some lost test (k + 1) n (free_one lost k s)))

-- ---- a heap whose slots from one number up to another were swept

pub record SweptHeap (cycle from to : ℕ) (h g : Heap) : Type 0 where
  pub registers : g.registers ≡ h.registers
  pub letters : g.letters ≡ h.letters
  pub grey : g.grey ≡ h.grey
  pub width : length g.slots ≡ length h.slots
  pub back : (k e : ℕ) (y : Object) → slot_at g k ≡ Occupied e y
      → (slot_at h k ≡ Occupied e y) × (from ≤ k → k < to → y.mark ≡ cycle)
  pub keeps : (k e : ℕ) (x : Object) → slot_at h k ≡ Occupied e x → x.mark ≡ cycle
      → slot_at g k ≡ Occupied e x
  pub free : FreeSlots h.slots h.free → FreeSlots g.slots g.free

pub swept-some : (cycle k n : ℕ) (s : Sweeping)
    → SweptHeap cycle k (k + n) s.heap (sweep_some cycle k n s).heap
swept-some cycle k n s =
    let c = cleared-some (λ _. is_garbage cycle) (garbage-test cycle) k n s in
    record {
      registers = c.freed.registers;
      letters = c.freed.letters;
      grey = c.freed.grey;
      width = c.freed.width;
      back = λ j e y there. (
        freed-left c.freed j e y there,
        λ least most. eqb-true y.mark cycle (not-false _ (c.stays j e y there least most)),
      );
      keeps = λ j e x there mark.
          c.keeps j e x there (not_from_true _ (eq-eqb x.mark cycle mark));
      free = c.free;
    }

-- ---- a heap with the same roots

pub roots-kept : {h g : Heap} (P : Ref → Type 0) → g.registers ≡ h.registers
    → g.letters ≡ h.letters → RootsAll P h → RootsAll P g
roots-kept P registers letters all = record {
  registers = subst (λ (z : List (Option Ref)). (k : ℕ) → IfAny P (get_or z k None))
      (sym registers) all.registers;
  letters = subst (λ z. (k : ℕ) → IfAny P (get_or z k no_letter).reference)
      (sym letters) all.letters;
}

-- ---- a heap with less in it

-- Registers and letters are the same. Each object is as it was before, except for its age, and what
-- is grey was grey.
pub record Lessens (h g : Heap) : Type 0 where
  pub registers : g.registers ≡ h.registers
  pub letters : g.letters ≡ h.letters
  pub left : (k e : ℕ) (y : Object) → slot_at g k ≡ Occupied e y
      → (x : Object) × (slot_at h k ≡ Occupied e x) × (y ≡ record x { age = y.age })
  pub grey : (k : ℕ) → Among k g.grey → Among k h.grey

pub swept-lessens : {cycle from to : ℕ} {h g : Heap} → SweptHeap cycle from to h g → Lessens h g
swept-lessens swept = record {
  registers = swept.registers;
  letters = swept.letters;
  left = λ k e y there. (y, (swept.back k e y there).0, refl);
  grey = λ k a. subst (Among k) swept.grey a;
}

pub reclaimed-lessens : (scope : Scope) (own : ℕ) (h : Heap) → Lessens h (reclaimed scope own h)
reclaimed-lessens scope own h =
    let f = freed-reclaiming scope own h in
    record {
      registers = f.registers;
      letters = f.letters;
      left = λ k e y there.
          let back = aged-back (freed_within scope own h) k e y there in (
            back.0,
            freed-left f k e back.0 back.1,
            back.2
                ∙ ap (λ (a : Age). record back.0 { age = a })
                (sym (ap (λ (z : Object). z.age) back.2)),
          );
      grey = λ k a.
          subst (Among k) f.grey (among-filter _ k (reclaiming scope own h).heap.grey a);
    }

-- ---- the node has swept

abbrev pub sweeping_local : LocalState → Heap → ℕ → ℕ → LocalState
sweeping_local p h swept cursor =
    record p { heap = h; phases = record p.phases { swept = swept; cursor = cursor } }

pub record SweepStep (shape : Shaped) (c d : Cut) (i : ℕ) (h : Heap) (to swept cursor : ℕ) : Type 0
  where
    pub inv : Inv shape c
    pub inside : i < shape.nodes
    pub ready : (c i).local.phases.swept < (c i).local.phases.ended
    pub heap : SweptHeap (cycle_of c i) (c i).local.phases.cursor to (c i).local.heap h
    -- all slots are swept, or the cursor moves on
    pub moves : ((swept ≡ cycle_of c i) × (cursor ≡ 0) × (length (c i).local.heap.slots ≡ to))
        ⊎ ((swept ≡ (c i).local.phases.swept) × (cursor ≡ to))
    pub becomes : Becomes c d i (record {
      local = sweeping_local (c i).local h swept cursor;
      sent = (c i).sent;
    })

module _ {shape : Shaped} {c d : Cut} {i : ℕ} {h : Heap} {to swept cursor : ℕ}
    (s : SweepStep shape c d i h to swept cursor) where
  abbrev swept_now : LocalState
  swept_now = sweeping_local (c i).local h swept cursor

  pub sweep-turn : Turn c d i swept_now []
  sweep-turn = record { becomes = s.becomes; heard = λ from. le_refl _ }

  -- marking has ended, and the node knows it
  pub sweep-resting : Resting (phases_of c 0)
  sweep-resting = sweeping-resting s.inv s.inside s.ready

  sweep-joined : Joined c i
  sweep-joined = resting-joined s.inv sweep-resting s.inside

  sweep-ended : (c i).local.phases.ended ≡ cycle_of c 0
  sweep-ended =
      let a = s.inv.phased.cycle i in
      let b = s.inv.phased.ended i in
      omega (arith, sweep-joined, a, b, s.ready)

  pub sweep-unswept : (c i).local.phases.swept < cycle_of c 0
  sweep-unswept = omega (arith, s.ready, sweep-ended)

  sweep-cycle : (j : ℕ) → cycle_of d j ≡ cycle_of c j
  sweep-cycle = at_turn (λ j z. z.local.phases.cycle ≡ cycle_of c j) sweep-turn refl (λ j _. refl)

  sweep-ends : (j : ℕ) → (phases_of d j).ended ≡ (phases_of c j).ended
  sweep-ends =
      at_turn (λ j z. z.local.phases.ended ≡ (phases_of c j).ended) sweep-turn refl (λ j _. refl)

  sweep-reports : (j : ℕ) → (phases_of d j).reports ≡ (phases_of c j).reports
  sweep-reports =
      at_turn (λ j z. z.local.phases.reports ≡ (phases_of c j).reports) sweep-turn refl
      (λ j _. refl)

  sweep-marking : Marking (phases_of d 0) → ⊥
  sweep-marking m = omega (arith, m, sweep-cycle 0, sweep-ends 0, sweep-resting)

  -- what is safe stays
  pub sweep-safe : (r : Ref) → Safe c r → Safe d r
  sweep-safe r safe =
      let mark : safe.object.mark ≡ cycle_of c 0 = safe.marked sweep-resting in
      record {
        object = safe.object;
        there =
            at_turn (λ l z. slot_at (c l).local.heap r.slot ≡ Occupied r.generation safe.object
            → slot_at z.local.heap r.slot ≡ Occupied r.generation safe.object) sweep-turn
            (λ there. s.heap.keeps r.slot r.generation safe.object there (mark ∙ sym sweep-joined))
            (λ l _ there. there) r.node safe.there;
        marked = λ _. mark ∙ sym (sweep-cycle 0);
      }

  -- an object afterwards was there before
  sweep-back : (j k g : ℕ) (o : Object) → slot_at (d j).local.heap k ≡ Occupied g o
      → slot_at (c j).local.heap k ≡ Occupied g o
  sweep-back j k g o =
      at_turn (λ l z. slot_at z.local.heap k ≡ Occupied g o
      → slot_at (c l).local.heap k ≡ Occupied g o) sweep-turn
      (λ there. (s.heap.back k g o there).0) (λ l _ there. there) j

  sweep-behind : (k g : ℕ) (o : Object) → slot_at h k ≡ Occupied g o
      → (k < cursor) ⊎ (swept ≡ cycle_of c 0) → o.mark ≡ cycle_of c 0
  sweep-behind k g o there past =
      let back = s.heap.back k g o there in
      let below : k < to → o.mark ≡ cycle_of c 0 =
      λ most. ⊎_elim {C = o.mark ≡ cycle_of c 0}
      (λ (before : k < (c i).local.phases.cursor).
      s.inv.rested.behind i k g o sweep-resting back.0 (inl before))
      (λ (now : (c i).local.phases.cursor ≤ k). back.1 now most ∙ sweep-joined)
      (cases_lt k (c i).local.phases.cursor) in
      ⊎_elim {C = o.mark ≡ cycle_of c 0}
      (λ last.
      let inside : k < length (c i).local.heap.slots =
      occupied-within (c i).local.heap.slots k g o back.0 in
      below (omega (arith, inside, last.2)))
      (λ more. ⊎_elim {C = o.mark ≡ cycle_of c 0}
      (λ (less : k < cursor). below (omega (arith, less, more.1)))
      (λ done. absurd (omega (arith, done, more.0, sweep-unswept)))
      past)
      s.moves

  sweep-swept : swept ≤ (c i).local.phases.ended
  sweep-swept = ⊎_elim {C = swept ≤ (c i).local.phases.ended}
      (λ last. omega (arith, last.0, sweep-joined, sweep-ended))
      (λ more. omega (arith, more.0, s.ready)) s.moves

  sweep-more : (c i).local.phases.swept ≤ swept
  sweep-more = ⊎_elim {C = (c i).local.phases.swept ≤ swept}
      (λ last. omega (arith, last.0, sweep-joined, sweep-unswept))
      (λ more. omega (arith, more.0)) s.moves

  sweep-phased : Phased shape.nodes (phases_of d)
  sweep-phased = record {
    swept = at_turn (λ j z. z.local.phases.swept ≤ z.local.phases.ended) sweep-turn sweep-swept
        (λ j _. s.inv.phased.swept j);
    ended = λ j. omega (arith, s.inv.phased.ended j, sweep-ends j, sweep-cycle j);
    cycle = at_turn (λ j z. z.local.phases.cycle ≤ z.local.phases.swept + 1) sweep-turn
        (let a = s.inv.phased.cycle i in omega (arith, a, sweep-more))
        (λ j _. s.inv.phased.cycle j);
    cursor = at_turn (λ j z. z.local.phases.swept ≡ z.local.phases.ended
        → z.local.phases.cursor ≡ 0) sweep-turn
        (λ same. ⊎_elim {C = cursor ≡ 0} (λ last. last.1)
        (λ more. absurd (omega (arith, same, more.0, s.ready))) s.moves)
        (λ j _. s.inv.phased.cursor j);
    first = λ j. omega (arith, s.inv.phased.first j, sweep-ends j, sweep-ends 0);
    apart = λ j inside.
        inl (sweep-cycle j ∙ resting-joined s.inv sweep-resting inside ∙ sym (sweep-cycle 0));
    reports = λ j above inside.
        (let same : get_or (phases_of d 0).reports j 0 ≡ get_or (phases_of c 0).reports j 0 =
        ap (λ (z : List ℕ). get_or z j 0) (sweep-reports 0) in
        let more : (phases_of c j).swept ≤ (phases_of d j).swept =
        at_turn (λ l z. (phases_of c l).swept ≤ z.local.phases.swept) sweep-turn sweep-more
        (λ l _. le_refl _) j in
        omega (arith, same, more, s.inv.phased.reports j above inside));
    reporters = ap length (sweep-reports 0) ∙ s.inv.phased.reporters;
  }

  sweep-was : (from k place : ℕ) (x : Message) → IsInFlight d from k place x
      → IsInFlight c from k place x
  sweep-was from k place x flight = ⊎_elim {C = IsInFlight c from k place x}
      (λ before. before) (λ new. absurd new.1) (flew sweep-turn from k place x flight)

  sweep-fits : (from k : ℕ) (x : Message) → BodyFits shape.nodes (phases_of c) from k x.stamp x.body
      → BodyFits shape.nodes (phases_of d) from k x.stamp x.body
  sweep-fits from k x fits =
      let alike : SaidAlike (phases_of c) (phases_of d) from k x.body = record {
        first = (sweep-cycle 0, sweep-ends 0);
        ended = λ _. sweep-ends k;
        swept = λ e. (
          at_turn (λ l z. l ≡ from → z.local.phases.swept ≡ (phases_of c l).swept) sweep-turn
              (λ (at : i ≡ from).
              absurd (let says : BodyFits shape.nodes (phases_of c) from k x.stamp body.Swept =
              subst (λ (z : Body). BodyFits shape.nodes (phases_of c) from k x.stamp z) e fits in
              let done : (phases_of c i).swept ≡ cycle_of c 0 =
              ap (λ (z : ℕ). (phases_of c z).swept) at ∙ says.3 in
              omega (arith, done, sweep-unswept)))
              (λ l _ _. refl) from refl,
          ap (λ (z : List ℕ). get_or z from 0) (sweep-reports 0),
        );
      } in
      fits-moved shape.nodes x.stamp alike fits

  pub sweep-inv : Inv shape d
  sweep-inv = record {
    base = base-step (unheard s.inside sweep-turn refl refl refl s.inv.base) s.inv.base;
    tidy = at_turn (λ j z. Tidy z.local) sweep-turn
        (record {
          free = s.heap.free (s.inv.tidy i).free;
          room = (let w = (s.inv.tidy i).room in let e = s.heap.width in omega (arith, w, e));
          marks = λ k g o there. (s.inv.tidy i).marks k g o (s.heap.back k g o there).0;
          calm = λ shut. s.heap.grey ∙ (s.inv.tidy i).calm shut;
        })
        (λ j _. s.inv.tidy j);
    phased = sweep-phased;
    messages = record {
      fits = λ from k place x flight.
          sweep-fits from k x
          (s.inv.messages.fits from k place x (sweep-was from k place x flight));
      once = λ from k a b x y fx fy.
          s.inv.messages.once from k a b x y (sweep-was from k a x fx) (sweep-was from k b y fy);
    };
    closed = record {
      roots = at_turn (λ j z. RootsAll (Safe d) z.local.heap) sweep-turn
          (roots-kept (Safe d) s.heap.registers s.heap.letters
          (roots-map (Safe c) (Safe d) sweep-safe (s.inv.closed.roots i)))
          (λ j _. roots-map (Safe c) (Safe d) sweep-safe (s.inv.closed.roots j));
      places = λ j k g o there marked l.
          any-map (Safe c) (Safe d) sweep-safe _
          (s.inv.closed.places j k g o (sweep-back j k g o there)
          (λ _.
          marked (sweep-ends 0 ∙ sweep-resting ∙ sym (sweep-cycle 0)) ∙ sweep-cycle 0) l);
      messages = λ from k place x flight.
          all-map (Safe c) (Safe d) sweep-safe (mentioned x.body)
          (s.inv.closed.messages from k place x (sweep-was from k place x flight));
    };
    cover = record {
      asked = λ marking. absurd (sweep-marking marking);
      messages = λ marking. absurd (sweep-marking marking);
    };
    held = record {
      roots = at_turn (λ j z. is_open z.local ≡ true → RootsAll (Holds z.local) z.local.heap)
          sweep-turn (λ opened. absurd (both_ways _ shut-now opened)) (λ j _. s.inv.held.roots j);
      blacks = λ j k g o.
          at_turn (λ l z. is_open z.local ≡ true → slot_at z.local.heap k ≡ Occupied g o
          → o.mark ≡ z.local.phases.cycle → (Among k z.local.heap.grey → ⊥)
          → PlacesAll (Holds z.local) o) sweep-turn
          (λ opened. absurd (both_ways _ shut-now opened)) (λ l _. s.inv.held.blacks l k g o) j;
    };
    rested = record {
      grey = λ j _.
          at_turn (λ l z. z.local.heap.grey ≡ []) sweep-turn
          (s.heap.grey ∙ s.inv.rested.grey i sweep-resting)
          (λ l _. s.inv.rested.grey l sweep-resting) j;
      behind = λ j k g o _ there past.
          at_turn (λ l z. slot_at z.local.heap k ≡ Occupied g o
          → (k < z.local.phases.cursor) ⊎ (z.local.phases.swept ≡ cycle_of c 0)
          → o.mark ≡ cycle_of c 0) sweep-turn
          (λ t p. sweep-behind k g o t p)
          (λ l _ t p. s.inv.rested.behind l k g o sweep-resting t p)
          j there
          (subst (λ (z : ℕ). (k < (phases_of d j).cursor) ⊎ ((phases_of d j).swept ≡ z))
          (sweep-cycle 0) past)
          ∙ sym (sweep-cycle 0);
    };
    flows =
        (let speaks : Speaks shape c d i swept_now [] = record {
          inv = s.inv;
          inside = s.inside;
          turn = sweep-turn;
          cycle = refl;
          got = refl;
          earlier = refl;
          recent = refl;
          all = tt;
          idle = λ k x a. absurd a;
        } in
        speaks-flows speaks);
    tokens = record {
      round = λ marking. absurd (sweep-marking marking);
      rest = λ t z _ at.
          s.inv.tokens.rest t z sweep-resting
          (token-back sweep-turn refl (λ k x y a. absurd a) t z at);
    };
    tallies = tallies-turn shape.nodes sweep-turn
        (tally-same sweep-turn refl refl (s.inv.tallies i s.inside)) s.inv.tallies;
  }
    where
      shut-now : is_open swept_now ≡ false
      shut-now =
          not_from_true _ (eq-eqb (c i).local.phases.ended (c i).local.phases.cycle
          (sweep-ended ∙ sym sweep-joined))

-- ---- the node reports it

pub record Reporting (shape : Shaped) (c d : Cut) (i : ℕ) : Type 0 where
  pub inv : Inv shape c
  pub inside : i < shape.nodes
  pub other : i ≢ 0
  pub resting : Resting (phases_of c 0)
  pub swept : (phases_of c i).swept ≡ cycle_of c 0
  pub unreported : get_or (phases_of c 0).reports i 0 < cycle_of c 0
  pub first : (place : ℕ) (x : Message) → IsInFlight c i 0 place x → x.body ≡ body.Swept → ⊥
  pub becomes : Becomes c d i (record {
    local = (c i).local;
    sent = append_all (c i).sent ((0, stamped (c i).local body.Swept) ∷ []);
  })

pub report-inv : {shape : Shaped} {c d : Cut} {i : ℕ} → Reporting shape c d i → Inv shape d
report-inv {shape = shape} {c = c} {d = d} {i = i} h =
    let p : LocalState = (c i).local in
    let x : Message = stamped p body.Swept in
    let ms : List (ℕ × Message) = (0, x) ∷ [] in
    let joined : Joined c i = resting-joined h.inv h.resting h.inside in
    let says : Says shape c d i ms = record {
      inv = h.inv;
      inside = h.inside;
      becomes = h.becomes;
      reaches = λ m a. ⊎_elim {C = m.0 < shape.nodes}
          (λ (is : m ≡ (0, x)).
          subst (λ (z : ℕ × Message). z.0 < shape.nodes) (sym is)
          (let w = h.inside in omega (arith, w)))
          (λ never. absurd never) a;
      idle = λ to y a. ⊎_elim {C = is_idle y.body ≡ true}
          (λ e. ap (λ (z : ℕ × Message). is_idle z.1.body) e) (λ never. absurd never) a;
      no_token = λ to y t a e. ⊎_elim {C = ⊥}
          (λ (is : (to, y) ≡ (0, x)).
          absurd (let never : body.Swept ≡ body.Token t =
          ap (λ (z : ℕ × Message). z.1.body) (sym is) ∙ e in cc))
          (λ never. never) a;
      fits = λ to y a. ⊎_elim {C = BodyFits shape.nodes (phases_of c) i to y.stamp y.body}
          (λ (is : (to, y) ≡ (0, x)).
          subst (λ (z : ℕ × Message).
          BodyFits shape.nodes (phases_of c) i z.0 z.1.stamp z.1.body) (sym is)
          (refl, h.other, joined, h.swept, h.unreported))
          (λ never. absurd never) a;
    } in
    let turn = says-turn says in
    says-inv says (λ from to k l y z fy fz same single. ⊎_elim {C = k ≡ l}
    (λ ey. ⊎_elim {C = k ≡ l}
    (λ ez. h.inv.messages.once from to k l y z ey ez same single)
    (λ nz.
    absurd (clash from to k y ey nz.0 nz.1 (same ∙ ap (λ (m : Message). m.body) nz.2)))
    (flew-one turn from to l z fz))
    (λ ny. ⊎_elim {C = k ≡ l}
    (λ ez.
    absurd (clash from to l z ez ny.0 ny.1 (sym same ∙ ap (λ (m : Message). m.body) ny.2)))
    (λ nz. ny.3 ∙ sym nz.3)
    (flew-one turn from to l z fz))
    (flew-one turn from to k y fy))
  where
    clash : (from to k : ℕ) (y : Message) → IsInFlight c from to k y → from ≡ i → to ≡ 0
        → y.body ≡ body.Swept → ⊥
    clash from to k y flight a b e =
        h.first k y (subst (λ (z : ℕ). IsInFlight c i z k y) b
        (subst (λ (z : ℕ). IsInFlight c z to k y) a flight)) e
