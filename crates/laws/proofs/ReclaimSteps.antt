-- The invariant after a node has freed private garbage. Nothing names what went: not the node's
-- registers, letters and other objects, since the places of what is kept name only what is kept;
-- nor anything outside, since a private object is unknown there.
use Rattle.std.proofs.Common.{◌≡◌, ◌≢◌, ℕ, ◌+◌, ◌<◌, ◌≤◌, ◌⊎◌, Bool, true, false, not, List, [], length, get_or, Option, None, refl, sym, ap, ◌∙◌, subst, ⊎_elim, arith, le_refl}
use Rattle.std.specs.Prelude.{filter}
use Rattle.std.proofs.lemmas.Bool.{cases_Bool, cond-false, or_left, or_right, not_from_true, not_from_false, not-false}
use Rattle.std.proofs.lemmas.List.{length-map}
use Rattle.std.proofs.Math.Path.{fun_ext}
use Rattle.ids.specs.Limits.{Shaped}
use Rattle.ids.specs.declared.names.Ref.{Ref}
use Rattle.msg.specs.declared.body.Body.TheVariants as body
use Rattle.msg.specs.declared.body.Message.{Message}
use Rattle.model.specs.declared.age.Scope.{Scope}
use Rattle.model.specs.declared.age.Scope.TheVariants as scope
use Rattle.model.specs.State.{Object, Slot, Free, Occupied, Retired, Heap, Phases, LocalState, got_from, slot_at}
use Rattle.model.specs.Shading.{is_in, is_open, filled, roots}
use Rattle.model.specs.Reclaiming.{is_occupied, is_needed, is_young, seen_young, slot_seen_young, seen, is_lost, reclaiming, aging, slot_aged, aged, freed_within, reclaimed}
use Rattle.model.specs.Steps.{carried, mentioned}
use Rattle.model.specs.Cuts.{Cut, taken, IsInFlight, Among, Becomes}
use Rattle.model.proofs.Slots.{occupied-within}
use Rattle.model.specs.Heaps.{is_old}
use Rattle.model.proofs.Lookups.{all-map}
use Rattle.model.proofs.Ages.{aged-at, aged-there, aged-back}
use Rattle.model.proofs.Seeing.{seen-at}
use Rattle.model.proofs.Freeing.{lost-test, freed-left}
use Rattle.model.proofs.Reclaiming.{needed-shared, needed-root, needed-place}
use Rattle.laws.specs.Privacy.{IsPrivate, Names}
use Rattle.laws.proofs.Lookups.{any-some, all-among, filter-among}
use Rattle.laws.proofs.Turns.{Turn, at_turn, flew, flies}
use Rattle.laws.proofs.Base.{base-step, unheard}
use Rattle.laws.proofs.Tallies.{tally-same, tallies-turn}
use Rattle.laws.proofs.Acting.{all-from, with_heap}
use Rattle.laws.proofs.Invariant.{phases_of, cycle_of, Marking, Resting, Safe, Holds, holds_marked, holds_asked, Covered, is_marked, is_asked, RootsAll, PlacesAll, IsFree, FreeSlots, Tidy, Phased, Closed, Cover, Held, Rested, Inv, MayHave, Unknown, Remembers, Recalled}
use Rattle.laws.proofs.Inner.{carried-mentioned}
use Rattle.laws.proofs.Light.{Speaks, speaks-flows}
use Rattle.laws.proofs.RingSteps.{quiet-messages}
use Rattle.laws.proofs.PhaseSteps.{Quietly, quiet-tokens}
use Rattle.laws.proofs.Dressing.{filled-among, option-holds, all-roots, roots-all}
use Rattle.laws.proofs.Sweeps.{Cleared, cleared-some, roots-kept, Lessens, reclaimed-lessens}

-- ---- what is needed

-- What is kept of a node's objects: what is shared, what the roots name, and what the places of
-- what is kept name.
pub record Keeps (own : ℕ) (h : Heap) (kept : ℕ → Bool) : Type 0 where
  pub shared : (k g : ℕ) (o : Object) → slot_at h k ≡ Occupied g o → o.shared ≡ true
      → kept k ≡ true
  pub root : (r : Ref) (o : Object) → Names own h r o → Among r (filled (roots h))
      → kept r.slot ≡ true
  pub place : (k g : ℕ) (holder : Object) → (slot_at h k ≡ Occupied g holder) × (kept k ≡ true)
      → (r : Ref) (o : Object) → Names own h r o → Among r (filled holder.places)
      → kept r.slot ≡ true

keeps-all : (own : ℕ) (h : Heap) → Keeps own h (is_needed own h)
keeps-all own h = record {
  shared = needed-shared own h;
  root = λ r o names a. needed-root own h r o names.0 names.1 a;
  place = λ k g holder held r o names a. needed-place own h k held r names.0 names.1 a;
}

-- if old objects name no young ones
module _ (own : ℕ) (h : Heap) (all : Remembers own h) where
  abbrev y : Heap
  y = seen scope.Young h

  seen-there : (k g : ℕ) (o : Object) → slot_at h k ≡ Occupied g o
      → slot_at y k ≡ Occupied g (seen_young o)
  seen-there k g o there = seen-at h k ∙ ap slot_seen_young there

  keeps-young : Keeps own h (is_needed own y)
  keeps-young = record {
    shared = λ k g o there is.
        needed-shared own y k g (seen_young o) (seen-there k g o there) (or_left o.shared _ is);
    root = λ r o names a.
        needed-root own y r (seen_young o) names.0 (seen-there r.slot r.generation o names.1) a;
    place = λ k g holder held r o names a.
        ⊎_elim {C = is_needed own y r.slot ≡ true}
        (λ old.
        let grown : is_young o.age ≡ false =
        all r
        (record {
          slot = k;
          generation = g;
          holder = holder;
          there = held.0;
          old = old;
          among = a;
        }) names.0 o names.1 in
        needed-shared own y r.slot r.generation (seen_young o)
        (seen-there r.slot r.generation o names.1)
        (or_right o.shared (not (is_young o.age)) (not_from_false _ grown)))
        (λ recent.
        needed-place own y k (seen-there k g holder held.0, held.1) r names.0
        (seen-there r.slot r.generation o names.1)
        (subst (λ (z : List (Option Ref)). Among r (filled z))
        (sym (cond-false (is_old holder.age) [] holder.places recent)) a))
        (cases_Bool (is_old holder.age));
  }

pub keeps-within : (z : Scope) (own : ℕ) (h : Heap) → Remembers own h
    → Keeps own h (is_needed own (seen z h))
keeps-within scope.All own h all = keeps-all own h
keeps-within scope.Young own h all = keeps-young own h all

-- ---- the heap

-- Of the objects in h, those that are kept are left in g, and old.
pub record ReclaimedHeap (kept : ℕ → Bool) (h g : Heap) : Type 0 where
  pub less : Lessens h g
  pub width : length g.slots ≡ length h.slots
  -- an object there was there before
  pub left : (k e : ℕ) (y : Object) → slot_at g k ≡ Occupied e y
      → (x : Object) × (slot_at h k ≡ Occupied e x) × (y ≡ aging x)
  pub needed : (k e : ℕ) (y : Object) → slot_at g k ≡ Occupied e y → kept k ≡ true
  pub keeps : (k e : ℕ) (x : Object) → slot_at h k ≡ Occupied e x → kept k ≡ true
      → slot_at g k ≡ Occupied e (aging x)
  pub grey : (k e : ℕ) (y : Object) → slot_at g k ≡ Occupied e y → Among k h.grey
      → Among k g.grey
  pub calm : h.grey ≡ [] → g.grey ≡ []
  pub free : FreeSlots h.slots h.free → FreeSlots g.slots g.free

aged-free : (h : Heap) → FreeSlots h.slots h.free → FreeSlots (aged h).slots h.free
aged-free h f = record {
  free = all-map (λ k. IsFree (slot_at h k)) (λ k. IsFree (slot_at (aged h) k))
      (λ k is. subst IsFree (sym (aged-at h k)) (stays (slot_at h k) is)) h.free f.free;
  once = f.once;
}
  where
    stays : (s : Slot) → IsFree s → IsFree (slot_aged s)
    stays (Free g) is = is
    stays (Occupied g o) never = absurd cc
    stays Retired is = is

pub reclaimed-heap : (z : Scope) (own : ℕ) (h : Heap)
    → ReclaimedHeap (is_needed own (seen z h)) h (reclaimed z own h)
reclaimed-heap z own h =
    let kept : ℕ → Bool = is_needed own (seen z h) in
    let f : Heap = freed_within z own h in
    let c : Cleared (is_lost kept) 0 (0 + length h.slots) h (reclaiming z own h).heap =
    cleared-some (is_lost kept) (lost-test kept) 0 (length h.slots)
    (record { heap = h; freed = 0 }) in
    record {
      less = reclaimed-lessens z own h;
      width = length-map f.slots slot_aged ∙ c.freed.width;
      left = λ k e y there.
          (let back = aged-back f k e y there in
          (back.0, freed-left c.freed k e back.0 back.1, back.2));
      needed = λ k e y there.
          (let back = aged-back f k e y there in
          let inside = occupied-within h.slots k e back.0
          (freed-left c.freed k e back.0 back.1) in
          not-false _ (c.stays k e back.0 back.1 (omega arith) (omega (arith, inside))));
      keeps = λ k e x there needed.
          aged-there f k e x (c.keeps k e x there (not_from_true _ needed));
      grey = λ k e y there a.
          (let back = aged-back f k e y there in
          filter-among (λ j. is_occupied (slot_at f j)) k (reclaiming z own h).heap.grey
          (subst (Among k) (sym c.freed.grey) a) (ap is_occupied back.1));
      calm = λ none.
          ap (filter (λ j. is_occupied (slot_at f j))) (c.freed.grey ∙ none);
      free = λ free. aged-free f (c.free free);
    }

-- ---- the step

pub record Reclaiming (shape : Shaped) (c d : Cut) (i : ℕ) (g : Heap) : Type 0 where
  pub inv : Inv shape c
  pub unknown : Unknown c
  pub inside : i < shape.nodes
  pub kept : ℕ → Bool
  pub keeps : Keeps i (c i).local.heap kept
  pub heap : ReclaimedHeap kept (c i).local.heap g
  pub becomes : Becomes c d i (with_heap (c i) g)

module _ {shape : Shaped} {c d : Cut} {i : ℕ} {g : Heap} (s : Reclaiming shape c d i g) where
  abbrev h : Heap
  h = (c i).local.heap

  abbrev q : LocalState
  q = record (c i).local { heap = g }

  turn : Turn c d i q []
  turn = record { becomes = s.becomes; heard = λ from. le_refl _ }

  phases : phases_of d ≡ phases_of c
  phases = fun_ext (at_turn (λ j z. z.local.phases ≡ phases_of c j) turn refl (λ j _. refl))

  cycle : (j : ℕ) → cycle_of d j ≡ cycle_of c j
  cycle j = ap (λ (z : ℕ → Phases). (z j).cycle) phases

  marking-back : Marking (phases_of d 0) → Marking (phases_of c 0)
  marking-back = subst (λ (z : ℕ → Phases). Marking (z 0)) phases

  resting-back : Resting (phases_of d 0) → Resting (phases_of c 0)
  resting-back = subst (λ (z : ℕ → Phases). Resting (z 0)) phases

  flew-none : (from to place : ℕ) (x : Message) → IsInFlight d from to place x
      → IsInFlight c from to place x
  flew-none from to place x flight = ⊎_elim {C = IsInFlight c from to place x}
      (λ before. before) (λ new. absurd new.1) (flew turn from to place x flight)

  still-flies : (from to place : ℕ) (x : Message) → IsInFlight c from to place x
      → IsInFlight d from to place x
  still-flies from to place x flight =
      let same : taken d from to ≡ taken c from to =
      at_turn (λ j z. got_from z.local from ≡ taken c from j) turn refl (λ j _. refl) to in
      flies turn from to place x flight (let w = flight.later in omega (arith, same, w))

  -- ---- what stays

  -- if it is an object of the node, it is needed
  abbrev pub Stays : Ref → Type 0
  Stays r = (o : Object) → Names i h r o → s.kept r.slot ≡ true

  pub root-stays : (r : Ref) → Among r (filled (roots h)) → Stays r
  root-stays r a o names = s.keeps.root r o names a

  pub place-stays : (k e : ℕ) (holder : Object) → slot_at g k ≡ Occupied e holder → (r : Ref)
      → Among r (filled holder.places) → Stays r
  place-stays k e holder there r a o names =
      let x = s.heap.left k e holder there in
      s.keeps.place k e x.0 (x.1, s.heap.needed k e holder there) r o names
      (subst (λ (z : Object). Among r (filled z.places)) x.2 a)

  pub shared-stays : (r : Ref) → (IsPrivate c r → ⊥) → Stays r
  shared-stays r known o names = ⊎_elim {C = s.kept r.slot ≡ true}
      (λ is. s.keeps.shared r.slot r.generation o names.1 is)
      (λ isnt.
      absurd (known (record {
        object = o;
        there = ap (λ (z : ℕ). slot_at (c z).local.heap r.slot) names.0 ∙ names.1;
        private = isnt;
      })))
      (cases_Bool o.shared)

  -- what another node has
  pub other-stays : (j : ℕ) → j ≢ i → (r : Ref) → MayHave c j r → Stays r
  other-stays j other r may o names =
      shared-stays r (may (λ (e : r.node ≡ j). other (sym e ∙ names.0))) o names

  -- the object is in its slot, with the same mark
  there-on : (r : Ref) (o : Object) → Stays r
      → slot_at (c r.node).local.heap r.slot ≡ Occupied r.generation o
      → (y : Object) × (slot_at (d r.node).local.heap r.slot ≡ Occupied r.generation y)
      × (y.mark ≡ o.mark)
  there-on r o stays =
      at_turn (λ l z. r.node ≡ l → slot_at (c l).local.heap r.slot ≡ Occupied r.generation o
      → (y : Object) × (slot_at z.local.heap r.slot ≡ Occupied r.generation y)
      × (y.mark ≡ o.mark)) turn
      (λ here there.
      (aging o, s.heap.keeps r.slot r.generation o there (stays o (here, there)), refl))
      (λ l _ here there. (o, there, refl)) r.node refl

  safe-on : (r : Ref) → Stays r → Safe c r → Safe d r
  safe-on r stays safe =
      let now = there-on r safe.object stays safe.there in
      record {
        object = now.0;
        there = now.1;
        marked = λ rest. now.2 ∙ safe.marked (resting-back rest) ∙ sym (cycle 0);
      }

  covered-on : (r : Ref) → Stays r → Covered c r → Covered d r
  covered-on r stays (is_marked o there mark) =
      let now = there-on r o stays there in is_marked now.0 now.1 (now.2 ∙ mark ∙ sym (cycle 0))
  covered-on r stays (is_asked from place flight) =
      is_asked from place
      (subst (λ (z : ℕ). IsInFlight d from r.node place (record { stamp = z; body = body.Mark r }))
      (sym (cycle 0)) (still-flies from r.node place _ flight))

  holds-on : (r : Ref) → Stays r → Holds (c i).local r → Holds q r
  holds-on r stays (holds_marked o own there mark) =
      holds_marked (aging o) own
      (s.heap.keeps r.slot r.generation o there
      (stays o (own ∙ s.inv.base.own i s.inside, there)))
      mark
  holds-on r stays (holds_asked far asked) = holds_asked far asked

  -- ---- the clauses of the invariant

  reclaim-tidy : Tidy q
  reclaim-tidy = record {
    free = s.heap.free (s.inv.tidy i).free;
    room = (let w = (s.inv.tidy i).room in let e = s.heap.width in omega (arith, w, e));
    marks = λ k e o there.
        (let x = s.heap.left k e o there in
        subst (λ (z : Object). z.mark ≤ cycle_of c i) (sym x.2) ((s.inv.tidy i).marks k e x.0 x.1));
    calm = λ shut. s.heap.calm ((s.inv.tidy i).calm shut);
  }

  reclaim-closed : Closed d
  reclaim-closed = record {
    roots = at_turn (λ j z. RootsAll (Safe d) z.local.heap) turn
        (roots-kept (Safe d) s.heap.less.registers s.heap.less.letters
        (all-roots (Safe d) h (λ r a.
        safe-on r (root-stays r a) (roots-all (Safe c) h (s.inv.closed.roots i) r a))))
        (λ j other.
        all-roots (Safe d) (c j).local.heap (λ r a.
        safe-on r
        (other-stays j other r (roots-all (MayHave c j) (c j).local.heap (s.unknown.roots j) r a))
        (roots-all (Safe c) (c j).local.heap (s.inv.closed.roots j) r a)));
    places = λ j k e o there marked.
        at_turn (λ l z. slot_at z.local.heap k ≡ Occupied e o → PlacesAll (Safe d) o) turn
        (λ at l.
        let x = s.heap.left k e o at in
        let all : PlacesAll (Safe c) o =
        subst (PlacesAll (Safe c)) (sym x.2)
        (s.inv.closed.places i k e x.0 x.1 (λ rest. ap (λ (z : Object). z.mark) (sym x.2)
        ∙ was o marked rest)) in
        option-holds (Safe d) (get_or o.places l None) (λ r is.
        safe-on r (place-stays k e o at r (filled-among o.places l r is))
        (any-some (Safe c) (get_or o.places l None) r (all l) is)))
        (λ j other at l.
        option-holds (Safe d) (get_or o.places l None) (λ r is.
        safe-on r
        (other-stays j other r
        (any-some (MayHave c j) (get_or o.places l None) r (s.unknown.places j k e o at l) is))
        (any-some (Safe c) (get_or o.places l None) r
        (s.inv.closed.places j k e o at (was o marked) l) is)))
        j there;
    messages = λ from to place x flight.
        let before = flew-none from to place x flight in
        all-from (Safe d) (mentioned x.body) (λ r a.
        safe-on r
        (shared-stays r
        (all-among (λ z. IsPrivate c z → ⊥) (mentioned x.body)
        (s.unknown.messages from to place x before) r a))
        (all-among (Safe c) (mentioned x.body) (s.inv.closed.messages from to place x before) r a));
  }
    where
      was : (o : Object) → (Resting (phases_of d 0) → o.mark ≡ cycle_of d 0)
          → Resting (phases_of c 0) → o.mark ≡ cycle_of c 0
      was o marked rest =
          marked (subst (λ (z : ℕ → Phases). Resting (z 0)) (sym phases) rest) ∙ cycle 0

  reclaim-cover : Cover shape.nodes d
  reclaim-cover = record {
    asked = λ marking j r inside joined asked.
        let before : is_in r (c j).local.asked ≡ true =
        at_turn (λ l z. is_in r z.local.asked ≡ true → is_in r (c l).local.asked ≡ true) turn
        (λ a. a) (λ l _ a. a) j asked in
        covered-on r (shared-stays r (s.unknown.asked j r before))
        (s.inv.cover.asked (marking-back marking) j r inside
        (sym (cycle j) ∙ joined ∙ cycle 0) before);
    messages = λ marking from to place x flight stamp.
        let before = flew-none from to place x flight in
        all-from (Covered d) (carried x.body) (λ r a.
        covered-on r
        (shared-stays r
        (all-among (λ z. IsPrivate c z → ⊥) (mentioned x.body)
        (s.unknown.messages from to place x before) r (carried-mentioned x.body r a)))
        (all-among (Covered c) (carried x.body)
        (s.inv.cover.messages (marking-back marking) from to place x before (stamp ∙ cycle 0))
        r a));
  }

  reclaim-held : Held d
  reclaim-held = record {
    roots = at_turn (λ j z. is_open z.local ≡ true → RootsAll (Holds z.local) z.local.heap) turn
        (λ opened.
        roots-kept (Holds q) s.heap.less.registers s.heap.less.letters
        (all-roots (Holds q) h (λ r a.
        holds-on r (root-stays r a)
        (roots-all (Holds (c i).local) h (s.inv.held.roots i opened) r a))))
        (λ j _. s.inv.held.roots j);
    blacks = λ j k e o.
        at_turn (λ l z. is_open z.local ≡ true → slot_at z.local.heap k ≡ Occupied e o
        → o.mark ≡ z.local.phases.cycle → (Among k z.local.heap.grey → ⊥)
        → PlacesAll (Holds z.local) o) turn
        (λ opened there mark black l.
        let x = s.heap.left k e o there in
        let all : PlacesAll (Holds (c i).local) o =
        subst (PlacesAll (Holds (c i).local)) (sym x.2)
        (s.inv.held.blacks i k e x.0 opened x.1
        (ap (λ (z : Object). z.mark) (sym x.2) ∙ mark)
        (λ a. black (s.heap.grey k e o there a))) in
        option-holds (Holds q) (get_or o.places l None) (λ r is.
        holds-on r (place-stays k e o there r (filled-among o.places l r is))
        (any-some (Holds (c i).local) (get_or o.places l None) r (all l) is)))
        (λ l _. s.inv.held.blacks l k e o) j;
  }

  reclaim-rested : Rested d
  reclaim-rested = record {
    grey = λ j rest.
        at_turn (λ l z. z.local.heap.grey ≡ []) turn
        (s.heap.calm (s.inv.rested.grey i (resting-back rest)))
        (λ l _. s.inv.rested.grey l (resting-back rest)) j;
    behind = λ j k e o rest there past.
        at_turn (λ l z. slot_at z.local.heap k ≡ Occupied e o
        → (k < z.local.phases.cursor) ⊎ (z.local.phases.swept ≡ cycle_of c 0)
        → o.mark ≡ cycle_of c 0) turn
        (λ at p.
        let x = s.heap.left k e o at in
        ap (λ (z : Object). z.mark) x.2
        ∙ s.inv.rested.behind i k e x.0 (resting-back rest) x.1 p)
        (λ l _ at p. s.inv.rested.behind l k e o (resting-back rest) at p)
        j there
        (subst (λ (z : ℕ). (k < (phases_of d j).cursor) ⊎ ((phases_of d j).swept ≡ z))
        (cycle 0) past)
        ∙ sym (cycle 0);
  }

  -- the node doesn't speak, and may have become passive
  reclaim-speaks : Speaks shape c d i q []
  reclaim-speaks = record {
    inv = s.inv;
    inside = s.inside;
    turn = turn;
    cycle = refl;
    got = refl;
    earlier = refl;
    recent = refl;
    all = tt;
    idle = λ to x never. absurd never;
  }

  reclaim-quiet : Quietly shape.nodes c d i q []
  reclaim-quiet = record {
    turn = turn;
    inside = s.inside;
    cycle = refl;
    ended = ap (λ (z : ℕ → Phases). (z 0).ended) phases;
    grey = s.heap.calm;
    earlier = refl;
    colour = refl;
    token = refl;
    none = λ to x t never. absurd never;
    stays = λ from place stamp t flight. flight.later;
  }

  pub reclaiming-inv : Inv shape d
  reclaiming-inv = record {
    base = base-step (unheard s.inside turn refl refl refl s.inv.base) s.inv.base;
    tidy = at_turn (λ j z. Tidy z.local) turn reclaim-tidy (λ j _. s.inv.tidy j);
    phased = subst (Phased shape.nodes) (sym phases) s.inv.phased;
    messages = quiet-messages turn phases s.inv.messages;
    closed = reclaim-closed;
    cover = reclaim-cover;
    held = reclaim-held;
    rested = reclaim-rested;
    flows = speaks-flows reclaim-speaks;
    tokens = quiet-tokens reclaim-quiet s.inv.tokens;
    tallies = tallies-turn shape.nodes turn (tally-same turn refl refl (s.inv.tallies i s.inside))
        s.inv.tallies;
  }

-- the node's own number is its number in the cut
pub reclaim-step : {shape : Shaped} {c d : Cut} {i : ℕ} (z : Scope) → Inv shape c → Unknown c
    → Recalled c → i < shape.nodes
    → Becomes c d i (with_heap (c i) (reclaimed z (c i).local.own (c i).local.heap))
    → Reclaiming shape c d i (reclaimed z (c i).local.own (c i).local.heap)
reclaim-step {c = c} {i = i} z inv unknown recalled inside becomes =
    let p : LocalState = (c i).local in
    record {
      inv = inv;
      unknown = unknown;
      inside = inside;
      kept = is_needed p.own (seen z p.heap);
      keeps = subst (λ (n : ℕ). Keeps n p.heap (is_needed p.own (seen z p.heap)))
          (inv.base.own i inside) (keeps-within z p.own p.heap (recalled i));
      heap = reclaimed-heap z p.own p.heap;
      becomes = becomes;
    }

pub reclaim-inv : {shape : Shaped} {c d : Cut} (i : ℕ) (z : Scope) → i < shape.nodes → Unknown c
    → Recalled c → Becomes c d i (with_heap (c i) (reclaimed z (c i).local.own (c i).local.heap))
    → Inv shape c → Inv shape d
reclaim-inv i z inside unknown recalled becomes inv =
    reclaiming-inv (reclaim-step z inv unknown recalled inside becomes)
