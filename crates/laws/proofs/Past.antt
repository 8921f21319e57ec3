-- A generation that was given out stays so. No event of a node and no message takes a generation
-- back or lowers the node's cycle.
use Rattle.std.proofs.Common.{◌≡◌, ℕ, ◌+◌, ◌<◌, ◌≤◌, ◌==◌, List, [], ◌∷◌, length, get_or, sym, subst, arith, le_refl, le_trans, true}
use Rattle.std.proofs.lemmas.Bool.{cond_both}
use Rattle.ids.specs.declared.limits.TheConstants.{GREATEST_GENERATION}
use Rattle.ids.specs.declared.names.Ref.{Ref}
use Rattle.msg.specs.declared.body.Body.{Body}
use Rattle.model.specs.declared.event.Event.{Event}
use Rattle.model.specs.State.{Object, Slot, Free, Occupied, Retired, Heap, LocalState, slot_at}
use Rattle.model.specs.Heaps.{rewritten, with_rewritten, next_slot, next_generation, generation_for, sharing}
use Rattle.model.specs.Counting.{append, announce}
use Rattle.model.specs.Shading.{enter, see_to}
use Rattle.model.specs.Collecting.{vacated_slot}
use Rattle.model.specs.Reclaiming.{slot_aged}
use Rattle.model.specs.Steps.{is_own, made, taken_in, settled, count_in}
use Rattle.model.proofs.Slots.{occupied-within}
use Rattle.model.proofs.Walk.{Collects, Walks, own-walks, taken-walks, place-walks, post-walks}
use Rattle.laws.proofs.Invariant.{IsFree, FreeSlots}
use Rattle.laws.proofs.Lasting.{IsKept, IsKeptFreed, Keeps, keeps-rewritten, keeps-moves, keeps-frees}

-- the slot has given this generation out, and won't do so again
abbrev pub PastSlot : Slot → ℕ → Type 0
PastSlot (Free next) generation = generation < next
PastSlot (Occupied g o) generation = generation ≤ g
PastSlot Retired generation = Unit {0}

pub record PastAt (h : Heap) (k generation : ℕ) : Type 0 where
  pub used : k < length h.slots
  pub past : PastSlot (slot_at h k) generation

-- an existing object was given out
pub occupied-past : (h : Heap) (k g : ℕ) (o : Object) → slot_at h k ≡ Occupied g o → PastAt h k g
occupied-past h k g o there = record {
  used = occupied-within h.slots k g o there;
  past = subst (λ (s : Slot). PastSlot s g) (sym there) (le_refl g);
}

-- the next new object's generation was not
pub new-not_past : (named : List ℕ) (slots : List Slot) → FreeSlots slots named
    → next_slot named slots < length slots
    → PastSlot (get_or slots (next_slot named slots) Retired) (generation_for named slots) → ⊥
new-not_past [] slots f used past = omega (arith, used)
new-not_past (k ∷ ks) slots f used past =
    let s : Slot = get_or slots k Retired in
    let free : PastSlot (Free (next_generation s)) (next_generation s) =
    subst (λ (z : Slot). PastSlot z (next_generation s)) f.free.0 past in
    omega (arith, free)

-- from one state of a node to a later one
pub record Ages (p q : LocalState) : Type 0 where
  pub cycle : p.phases.cycle ≤ q.phases.cycle
  pub past : (k generation : ℕ) → PastAt p.heap k generation → PastAt q.heap k generation

pub ages-through : {p q r : LocalState} → Ages p q → Ages q r → Ages p r
ages-through a b = record {
  cycle = le_trans a.cycle b.cycle;
  past = λ k g x. b.past k g (a.past k g x);
}

-- ---- what keeps it

past-rewritten : (f : Object → Object) (g : ℕ) (s : Slot) (generation : ℕ) → PastSlot s generation
    → PastSlot (rewritten f g s) generation
past-rewritten f g (Free n) generation h = h
past-rewritten f g (Occupied n o) generation h = h
past-rewritten f g Retired generation h = h

past-free : (s : Slot) (generation : ℕ) → IsFree s → PastSlot s generation
    → generation ≤ next_generation s
past-free (Free n) generation free h = omega (arith, h)
past-free (Occupied n o) generation free h = absurd cc
past-free Retired generation free h = absurd cc

past-vacated : (g generation : ℕ) → generation ≤ g → PastSlot (vacated_slot g) generation
past-vacated g generation h =
    cond_both (g == GREATEST_GENERATION) Retired (Free (g + 1)) (λ z. PastSlot z generation)
    (λ _. tt) (λ _. (let w : generation < g + 1 = omega (arith, h) in w))

past-aged : (s : Slot) (generation : ℕ) → PastSlot s generation
    → PastSlot (slot_aged s) generation
past-aged (Free n) generation h = h
past-aged (Occupied n o) generation h = h
past-aged Retired generation h = h

pub past-kept : IsKept PastSlot
past-kept = record {
  rewritten = past-rewritten;
  made = λ s o e. past-free s e;
}

pub past-freed : IsKeptFreed PastSlot
past-freed = record { vacated = λ g o. past-vacated g; aged = past-aged }

-- ---- nodes

later : {h g : Heap} → Keeps PastSlot h g → (k generation : ℕ) → PastAt h k generation
    → PastAt g k generation
later keeps k generation x =
    let y = keeps k generation (record { used = x.used; holds = x.past }) in
    record { used = y.used; past = y.holds }

-- slots and cycle stay
pub ages-same : (p : LocalState) → Ages p p
ages-same p = record { cycle = le_refl _; past = λ k g x. x }

-- what a move of a node that keeps its cycle does
ages-by : (p : LocalState) (h : Heap) → Keeps PastSlot p.heap h
    → Ages p (record p { heap = h })
ages-by p h keeps = record { cycle = le_refl _; past = later keeps }

pub ages-collects : Collects (λ p w. Ages p w.local)
unfolding see_to enter append announce
ages-collects =
    let c = (keeps-moves past-kept).collects in
    record {
      rest = ages-same;
      both = λ p w f first second. ages-through first second;
      sees = λ due rs p. record { cycle = le_refl _; past = later (c.sees due rs p) };
      enters = λ p cycle more. record {
        cycle = omega (arith, more);
        past = later (c.enters p cycle more);
      };
      rings = λ p r. record { cycle = le_refl _; past = λ k g x. x };
      ends = λ p. record { cycle = le_refl _; past = λ k g x. x };
      hears = λ p reports. record { cycle = le_refl _; past = λ k g x. x };
      scans = λ p. record { cycle = le_refl _; past = later (c.scans p) };
      sends = λ to b p quiet. record { cycle = le_refl _; past = λ k g x. x };
      tells = λ b p quiet. record { cycle = le_refl _; past = λ k g x. x };
    }

pub ages-rewritten : (p : LocalState) (r : Ref) (f : Object → Object)
    → Ages p (record p { heap = with_rewritten p.heap r f })
ages-rewritten p r f = ages-by p _ (keeps-rewritten past-kept p.heap r f)

-- if the free list names free slots, when an object is made
pub ages-walks : Walks (λ p. FreeSlots p.heap.slots p.heap.free) (λ p w. Ages p w.local)
unfolding append
ages-walks =
    let m = keeps-moves past-kept in
    record {
      moves = record {
        collects = ages-collects;
        roots = λ p registers letters. ages-by p _ (m.roots p registers letters);
        rewrites = λ p r f quiet. ages-rewritten p r f;
        places = place-walks ages-collects (λ p r f shared. ages-rewritten p r f);
        makes = λ p register places f. ages-by p _ (m.makes p register places f);
        gives = λ to b p carries.
            post-walks ages-collects (λ q r. ages-rewritten q r sharing) to b p
            (record { cycle = le_refl _; past = λ k g x. x });
      };
      frees = record {
        sweeps = λ p count. record {
          cycle = le_refl _;
          past = later ((keeps-frees past-freed).sweeps p count);
        };
        reclaims = λ p scope. ages-by p _ ((keeps-frees past-freed).reclaims p scope);
      };
    }

pub ages-own : (p : LocalState) (counts : List ℕ) (e : Event) → is_own e ≡ true
    → FreeSlots p.heap.slots p.heap.free → Ages p (made p counts e).local
ages-own p counts e own f = own-walks ages-walks p counts e own f

pub ages-taken : (p : LocalState) (from number stamp : ℕ) (b : Body)
    → Ages p (taken_in p from number stamp b).local
unfolding taken_in settled count_in
ages-taken p from number stamp b =
    let before = taken-walks ages-walks p from stamp b in
    record { cycle = before.cycle; past = before.past }
