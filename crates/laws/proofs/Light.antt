-- A step of one node that shades nothing and counts nothing. It concerns only the ring, the phases,
-- and the messages about these. It keeps what the invariant says of objects and references.
use Rattle.std.proofs.Common.{◌≡◌, ◌≢◌, ℕ, ℤ, pos, ◌+◌, ◌+ℤ◌, ◌<◌, ◌≤◌, ◌⊎◌, ◌==◌, cond, Bool, true, false, List, [], ◌∷◌, length, length-set, get_or, set, Option, Some, slice_get, refl, sym, ap, ◌∙◌, subst, ⊎_elim, inl, inr, arith}
use Rattle.std.specs.List.{AllByRecursion}
use Rattle.std.proofs.lemmas.Int.{ints}
use Rattle.std.proofs.lemmas.Bool.{cases_eq}
use Rattle.std.proofs.lemmas.Option.{slice_get_within}
use Rattle.ids.specs.Limits.{Shaped}
use Rattle.ids.specs.declared.names.Ref.{Ref}
use Rattle.msg.specs.declared.body.Body.{Body}
use Rattle.msg.specs.declared.body.Body.TheVariants as body
use Rattle.msg.specs.declared.body.Message.{Message}
use Rattle.model.specs.State.{Object, Occupied, Heap, LocalState, slot_at, got_from, sent_to}
use Rattle.model.specs.Counting.{is_idle}
use Rattle.model.specs.Shading.{is_in, is_open}
use Rattle.model.specs.Steps.{carried, mentioned}
use Rattle.model.specs.Cuts.{Cut, taken, IsInFlight, Among, Becomes}
use Rattle.model.specs.Agreement.{counts, is_counted, balance}
use Rattle.model.proofs.Lookups.{all-map, at_set_if}
use Rattle.laws.proofs.Lookups.{any-map, set-no_fewer}
use Rattle.laws.proofs.Turns.{Turn, at_turn, flew, flies}
use Rattle.laws.proofs.Flights.{number_sent, SendsCounted, flows-sent, TakesCounted, flows-taken}
use Rattle.laws.proofs.Base.{BaseStep, base-step}
use Rattle.laws.proofs.Tallies.{tally-same, tallies-turn}
use Rattle.laws.proofs.Invariant.{phases_of, cycle_of, Marking, Resting, Safe, Holds, holds_marked, holds_asked, Covered, is_marked, is_asked, RootsAll, PlacesAll, Tidy, FreeSlots, Phased, Messages, Closed, Cover, Held, Rested, Flows, is_fresh, fresh_balance, Tokens, Inv}
use Rattle.laws.proofs.Inner.{roots-map}

pub idle-mentions : (b : Body) → is_idle b ≡ true → mentioned b ≡ []
idle-mentions (body.Mark r) is = absurd cc
idle-mentions (body.Give label reference) is = absurd cc
idle-mentions (body.Put target place reference) is = absurd cc
idle-mentions (body.Get target place label) is = absurd cc
idle-mentions (body.Post label references bytes) is = absurd cc
idle-mentions (body.Fetch target label offset count) is = absurd cc
idle-mentions b is = refl

pub idle-carries : (b : Body) → is_idle b ≡ true → carried b ≡ []
idle-carries (body.Mark r) is = absurd cc
idle-carries (body.Give label reference) is = absurd cc
idle-carries (body.Put target place reference) is = absurd cc
idle-carries (body.Get target place label) is = absurd cc
idle-carries (body.Post label references bytes) is = absurd cc
idle-carries (body.Fetch target label offset count) is = absurd cc
idle-carries b is = refl

pub idle-counts : (cycle : ℕ) (x : Message) → is_idle x.body ≡ true
    → (is_counted cycle x ≡ false) × (is_fresh cycle x ≡ false)
idle-counts cycle x is = by x.body is
  where
    by : (b : Body) → is_idle b ≡ true → (counts cycle x.stamp b ≡ false)
        × (is_fresh cycle (record { stamp = x.stamp; body = b }) ≡ false)
    by (body.Mark r) i = absurd cc
    by (body.Give label reference) i = absurd cc
    by (body.Put target place reference) i = absurd cc
    by (body.Get target place label) i = absurd cc
    by (body.Post label references bytes) i = absurd cc
    by (body.Fetch target label offset count) i = absurd cc
    by b i = (refl, refl)

pub record Light (shape : Shaped) (c d : Cut) (i : ℕ) (q : LocalState) (ms : List (ℕ × Message))
    : Type 0 where
  pub inv : Inv shape c
  pub step : BaseStep shape c d i q ms
  pub heap : q.heap ≡ (c i).local.heap
  pub asked : q.asked ≡ (c i).local.asked
  pub cycle : q.phases.cycle ≡ (c i).local.phases.cycle
  pub ended : (phases_of d 0).ended ≡ (phases_of c 0).ended
  pub opened : is_open q ≡ true → is_open (c i).local ≡ true
  pub calm : is_open q ≡ false → (c i).local.heap.grey ≡ []
  pub idle : (to : ℕ) (x : Message) → Among (to, x) ms → is_idle x.body ≡ true
  pub marks : (from place stamp : ℕ) (r : Ref)
      → IsInFlight c from i place (record { stamp = stamp; body = body.Mark r })
      → got_from q from ≤ place
  pub flows : Flows shape.nodes d
  pub owed : (q.ring.earlier ≡ (c i).local.ring.earlier) × (q.ring.recent ≡ (c i).local.ring.recent)
  pub phased : Phased shape.nodes (phases_of d)
  pub messages : Messages shape.nodes d
  pub tokens : Tokens shape.nodes d
  pub behind : (k g : ℕ) (o : Object) → Resting (phases_of c 0)
      → slot_at (c i).local.heap k ≡ Occupied g o
      → (k < q.phases.cursor) ⊎ (q.phases.swept ≡ cycle_of c 0) → o.mark ≡ cycle_of c 0

module _ {shape : Shaped} {c d : Cut} {i : ℕ} {q : LocalState} {ms : List (ℕ × Message)}
    (h : Light shape c d i q ms) where
  light-heap : (j : ℕ) → (d j).local.heap ≡ (c j).local.heap
  light-heap = at_turn (λ j s. s.local.heap ≡ (c j).local.heap) h.step.turn h.heap (λ j _. refl)

  pub light-cycle : (j : ℕ) → cycle_of d j ≡ cycle_of c j
  light-cycle =
      at_turn (λ j s. s.local.phases.cycle ≡ cycle_of c j) h.step.turn h.cycle (λ j _. refl)

  pub light-marking : Marking (phases_of d 0) → Marking (phases_of c 0)
  light-marking m = omega (arith, m, h.ended, light-cycle 0)

  pub light-resting : Resting (phases_of d 0) → Resting (phases_of c 0)
  light-resting m = omega (arith, m, h.ended, light-cycle 0)

  light-safe : (r : Ref) → Safe c r → Safe d r
  light-safe r safe = record {
    object = safe.object;
    there = ap (λ (z : Heap). slot_at z r.slot) (light-heap r.node) ∙ safe.there;
    marked = λ rest. safe.marked (light-resting rest) ∙ sym (light-cycle 0);
  }

  light-covered : (r : Ref) → Covered c r → Covered d r
  light-covered r (is_marked o there mark) =
      is_marked o (ap (λ (z : Heap). slot_at z r.slot) (light-heap r.node) ∙ there)
      (mark ∙ sym (light-cycle 0))
  light-covered r (is_asked from place flight) =
      is_asked from place
      (subst (λ (z : ℕ). IsInFlight d from r.node place (record { stamp = z; body = body.Mark r }))
      (sym (light-cycle 0))
      (flies h.step.turn from r.node place _ flight
      (at_turn
      (λ l s. IsInFlight c from l place (record { stamp = cycle_of c 0; body = body.Mark r })
      → got_from s.local from ≤ place) h.step.turn
      (λ f. h.marks from place (cycle_of c 0) r f) (λ l _ f. f.later) r.node flight)))

  light-holds : (r : Ref) → Holds (c i).local r → Holds q r
  light-holds r (holds_marked o own there mark) =
      holds_marked o (own ∙ sym h.step.own) (ap (λ (z : Heap). slot_at z r.slot) h.heap ∙ there)
      (mark ∙ sym h.cycle)
  light-holds r (holds_asked far asked) =
      holds_asked (λ (e : r.node ≡ q.own). far (e ∙ h.step.own))
      (subst (λ (z : List Ref). is_in r z ≡ true) (sym h.asked) asked)

  light-closed : Closed d
  light-closed = record {
    roots = λ j.
        subst (RootsAll (Safe d)) (sym (light-heap j))
        (roots-map (Safe c) (Safe d) light-safe (h.inv.closed.roots j));
    places = λ j k g o there marked.
        λ l. any-map (Safe c) (Safe d) light-safe _
        (h.inv.closed.places j k g o
        (ap (λ (z : Heap). slot_at z k) (sym (light-heap j)) ∙ there)
        (λ rest.
        marked
        (let e : (phases_of d 0).ended ≡ (phases_of d 0).cycle =
        omega (arith, rest, h.ended, light-cycle 0) in
        e)
        ∙ light-cycle 0) l);
    messages = λ from to place x flight. ⊎_elim {C = AllByRecursion (Safe d) (mentioned x.body)}
        (λ before.
        all-map (Safe c) (Safe d) light-safe (mentioned x.body)
        (h.inv.closed.messages from to place x before))
        (λ new.
        subst (λ (z : List Ref). AllByRecursion (Safe d) z)
        (sym (idle-mentions x.body (h.idle to x new.1))) tt)
        (flew h.step.turn from to place x flight);
  }

  light-cover : Cover shape.nodes d
  light-cover = record {
    asked = λ marking j r inside joined asked.
        light-covered r
        (h.inv.cover.asked (light-marking marking) j r inside
        (sym (light-cycle j) ∙ joined ∙ light-cycle 0)
        (at_turn (λ l s. is_in r s.local.asked ≡ true → is_in r (c l).local.asked ≡ true)
        h.step.turn
        (λ a. subst (λ (z : List Ref). is_in r z ≡ true) h.asked a) (λ l _ a. a) j asked));
    messages = λ marking from to place x flight stamp.
        ⊎_elim {C = AllByRecursion (Covered d) (carried x.body)}
        (λ before.
        all-map (Covered c) (Covered d) light-covered (carried x.body)
        (h.inv.cover.messages (light-marking marking) from to place x before
        (stamp ∙ light-cycle 0)))
        (λ new.
        subst (λ (z : List Ref). AllByRecursion (Covered d) z)
        (sym (idle-carries x.body (h.idle to x new.1))) tt)
        (flew h.step.turn from to place x flight);
  }

  light-held : Held d
  light-held = record {
    roots = at_turn (λ j s. is_open s.local ≡ true → RootsAll (Holds s.local) s.local.heap)
        h.step.turn
        (λ opened.
        subst (RootsAll (Holds q)) (sym h.heap)
        (roots-map (Holds (c i).local) (Holds q) light-holds
        (h.inv.held.roots i (h.opened opened))))
        (λ j _. h.inv.held.roots j);
    blacks = λ j k g o.
        at_turn (λ l s. is_open s.local ≡ true → slot_at s.local.heap k ≡ Occupied g o
        → o.mark ≡ s.local.phases.cycle → (Among k s.local.heap.grey → ⊥)
        → PlacesAll (Holds s.local) o) h.step.turn
        (λ opened there mark black l.
        any-map (Holds (c i).local) (Holds q) light-holds _
        (h.inv.held.blacks i k g o (h.opened opened)
        (ap (λ (z : Heap). slot_at z k) (sym h.heap) ∙ there) (mark ∙ h.cycle)
        (λ a. black (subst (λ (z : Heap). Among k z.grey) (sym h.heap) a)) l))
        (λ l _. h.inv.held.blacks l k g o) j;
  }

  light-rested : Rested d
  light-rested = record {
    grey = λ j rest.
        ap (λ (z : Heap). z.grey) (light-heap j) ∙ h.inv.rested.grey j (light-resting rest);
    behind = λ j k g o rest there past.
        at_turn (λ l s. slot_at s.local.heap k ≡ Occupied g o
        → (k < s.local.phases.cursor) ⊎ (s.local.phases.swept ≡ cycle_of c 0)
        → o.mark ≡ cycle_of c 0) h.step.turn
        (λ t p.
        h.behind k g o (light-resting rest) (ap (λ (z : Heap). slot_at z k) (sym h.heap) ∙ t) p)
        (λ l _ t p. h.inv.rested.behind l k g o (light-resting rest) t p)
        j there
        (subst (λ (z : ℕ). (k < (phases_of d j).cursor) ⊎ ((phases_of d j).swept ≡ z))
        (light-cycle 0) past)
        ∙ sym (light-cycle 0);
  }

  light-tidy : Tidy q
  light-tidy =
      let tidy = h.inv.tidy i in
      record {
        free = subst (λ (z : Heap). FreeSlots z.slots z.free) (sym h.heap) tidy.free;
        room =
            let most : q.shape.slots ≡ (c i).local.shape.slots =
            ap (λ (z : Shaped). z.slots) h.step.same_shape in
            let wide : length q.heap.slots ≡ length (c i).local.heap.slots =
            ap (λ (z : Heap). length z.slots) h.heap in
            omega (arith, most, wide, tidy.room);
        marks = λ k g o there.
            let old : o.mark ≤ (c i).local.phases.cycle =
            tidy.marks k g o (ap (λ (z : Heap). slot_at z k) (sym h.heap) ∙ there) in
            omega (arith, old, h.cycle);
        calm = λ shut. ap (λ (z : Heap). z.grey) h.heap ∙ h.calm shut;
      }

  pub light-inv : Inv shape d
  light-inv = record {
    base = base-step h.step h.inv.base;
    tidy = at_turn (λ j s. Tidy s.local) h.step.turn light-tidy (λ j _. h.inv.tidy j);
    phased = h.phased;
    messages = h.messages;
    closed = light-closed;
    cover = light-cover;
    held = light-held;
    rested = light-rested;
    flows = h.flows;
    tokens = h.tokens;
    tallies = tallies-turn shape.nodes h.step.turn
        (tally-same h.step.turn h.owed.0 h.owed.1 (h.inv.tallies i h.step.inside)) h.inv.tallies;
  }

-- ---- counted messages in flight

pub idle-none : (cycle : ℕ) (ms : List (ℕ × Message))
    → ((to : ℕ) (x : Message) → Among (to, x) ms → is_idle x.body ≡ true)
    → (number_sent (is_counted cycle) ms ≡ 0) × (number_sent (is_fresh cycle) ms ≡ 0)
idle-none cycle [] all = (refl, refl)
idle-none cycle ((to, x) ∷ ms) all =
    let rest = idle-none cycle ms (λ k y a. all k y (inr a)) in
    let none = idle-counts cycle x (all to x (inl refl)) in
    let a : ◌≡◌ {A = ℕ} (cond (is_counted cycle x) 1 0) 0 =
    ap (λ (z : Bool). cond {A = ℕ} z 1 0) none.0 in
    let b : ◌≡◌ {A = ℕ} (cond (is_fresh cycle x) 1 0) 0 =
    ap (λ (z : Bool). cond {A = ℕ} z 1 0) none.1 in
    (omega (arith, rest.0, a), omega (arith, rest.1, b))

-- balances are the same if the cycle and both balances of the ring are
pub balance-same : (cycle : ℕ) (p q : LocalState) → q.phases.cycle ≡ p.phases.cycle
    → q.ring.earlier ≡ p.ring.earlier → q.ring.recent ≡ p.ring.recent
    → (balance cycle q ≡ balance cycle p) × (fresh_balance cycle q ≡ fresh_balance cycle p)
balance-same cycle p q at earlier recent = (
  ap (λ (z : ℕ). cond (z == cycle) q.ring.earlier (q.ring.earlier +ℤ q.ring.recent)) at
      ∙ ap (λ (z : ℤ). cond (p.phases.cycle == cycle) z (z +ℤ q.ring.recent)) earlier
      ∙ ap (λ (z : ℤ). cond (p.phases.cycle == cycle) p.ring.earlier (p.ring.earlier +ℤ z)) recent,
  ap (λ (z : ℕ). cond (z == cycle) q.ring.recent (pos 0)) at
      ∙ ap (λ (z : ℤ). cond (p.phases.cycle == cycle) z (pos 0)) recent,
)

-- idle messages are sent, and nothing is received
pub record Speaks (shape : Shaped) (c d : Cut) (i : ℕ) (q : LocalState) (ms : List (ℕ × Message))
    : Type 0 where
  pub inv : Inv shape c
  pub inside : i < shape.nodes
  pub turn : Turn c d i q ms
  pub cycle : q.phases.cycle ≡ (c i).local.phases.cycle
  pub got : q.got ≡ (c i).local.got
  pub earlier : q.ring.earlier ≡ (c i).local.ring.earlier
  pub recent : q.ring.recent ≡ (c i).local.ring.recent
  pub all : AllByRecursion (λ m. m.0 < shape.nodes) ms
  pub idle : (to : ℕ) (x : Message) → Among (to, x) ms → is_idle x.body ≡ true

pub speaks-flows : {shape : Shaped} {c d : Cut} {i : ℕ} {q : LocalState} {ms : List (ℕ × Message)}
    → Speaks shape c d i q ms → Flows shape.nodes d
speaks-flows {shape = shape} {c = c} {d = d} {i = i} {q = q} {ms = ms} h =
    let same = balance-same (cycle_of c 0) (c i).local q h.cycle h.earlier h.recent in
    let none = idle-none (cycle_of c 0) ms h.idle in
    let sends : SendsCounted shape c d i q ms = record {
      base = h.inv.base;
      inside = h.inside;
      turn = h.turn;
      cycle = at_turn (λ j s. s.local.phases.cycle ≡ cycle_of c j) h.turn h.cycle (λ j _. refl) 0;
      got = h.got;
      all = h.all;
      counted = omega (arith, ints, same.0, none.0);
      fresh = omega (arith, ints, same.1, none.1);
    } in
    flows-sent sends h.inv.flows

-- an idle message is received, and nothing is sent
pub record Hears (shape : Shaped) (c d : Cut) (i : ℕ) (q : LocalState) (j : ℕ) (x : Message)
    : Type 0 where
  pub inv : Inv shape c
  pub inside : i < shape.nodes
  pub becomes : Becomes c d i (record { local = q; sent = (c i).sent })
  pub flight : IsInFlight c j i (taken c j i) x
  pub idle : is_idle x.body ≡ true
  pub cycle : q.phases.cycle ≡ (c i).local.phases.cycle
  pub got : q.got ≡ set (c i).local.got j (taken c j i + 1)
  pub earlier : q.ring.earlier ≡ (c i).local.ring.earlier
  pub recent : q.ring.recent ≡ (c i).local.ring.recent

module _ {shape : Shaped} {c d : Cut} {i : ℕ} {q : LocalState} {j : ℕ} {x : Message}
    (h : Hears shape c d i q j x) where
  pub hears-turn : Turn c d i q []
  hears-turn = record {
    becomes = h.becomes;
    heard = λ from.
        subst (λ (z : List ℕ). taken c from i ≤ get_or z from 0) (sym h.got)
        (set-no_fewer (c i).local.got j (taken c j i + 1) (omega arith) from);
  }

  pub hears-flows : Flows shape.nodes d
  hears-flows =
      let same = balance-same (cycle_of c 0) (c i).local q h.cycle h.earlier h.recent in
      let none = idle-counts (cycle_of c 0) x h.idle in
      let a : ◌≡◌ {A = ℕ} (cond (is_counted (cycle_of c 0) x) 1 0) 0 =
      ap (λ (z : Bool). cond {A = ℕ} z 1 0) none.0 in
      let b : ◌≡◌ {A = ℕ} (cond (is_fresh (cycle_of c 0) x) 1 0) 0 =
      ap (λ (z : Bool). cond {A = ℕ} z 1 0) none.1 in
      let takes : TakesCounted shape c d i q j x = record {
        base = h.inv.base;
        inside = h.inside;
        turn = hears-turn;
        cycle = at_turn (λ l s. s.local.phases.cycle ≡ cycle_of c l) hears-turn h.cycle
            (λ l _. refl) 0;
        flight = h.flight;
        got = h.got;
        counted = omega (arith, ints, same.0, a);
        fresh = omega (arith, ints, same.1, b);
      } in
      flows-taken takes h.inv.flows

  pub hears-width : length q.got ≡ length (c i).local.got
  hears-width = ap length h.got ∙ length-set (c i).local.got j (taken c j i + 1)

  pub hears-within : (from : ℕ) → got_from q from ≤ length (sent_to (c from) i)
  hears-within from =
      let there : taken c j i < length (sent_to (c j) i) =
      slice_get_within (sent_to (c j) i) (taken c j i) x h.flight.there in
      subst (λ (z : List ℕ). get_or z from 0 ≤ length (sent_to (c from) i)) (sym h.got)
      (at_set_if (λ z. z ≤ length (sent_to (c from) i)) (c i).local.got j from (taken c j i + 1) 0
      (λ e. subst (λ (z : ℕ). taken c j i + 1 ≤ length (sent_to (c z) i)) e (omega (arith, there)))
      (h.inv.base.within from i))

  -- other messages are still in flight
  pub hears-others : (from place : ℕ) (y : Message) → IsInFlight c from i place y
      → (got_from q from ≤ place) ⊎ ((y ≡ x) × (from ≡ j) × (place ≡ taken c j i))
  hears-others from place y flight =
      subst (λ (z : List ℕ).
      (get_or z from 0 ≤ place) ⊎ ((y ≡ x) × (from ≡ j) × (place ≡ taken c j i))) (sym h.got)
      (at_set_if (λ z. (z ≤ place) ⊎ ((y ≡ x) × (from ≡ j) × (place ≡ taken c j i))) (c i).local.got
      j from (taken c j i + 1) 0
      (λ (e : j ≡ from).
      ⊎_elim {C = (taken c j i + 1 ≤ place) ⊎ ((y ≡ x) × (from ≡ j) × (place ≡ taken c j i))}
      (λ (same : taken c j i ≡ place).
      inr (
        (let both : ◌≡◌ {A = Option Message} (Some y) (Some x) =
            sym flight.there ∙ ap (λ (z : ℕ). slice_get (sent_to (c z) i) place) (sym e)
            ∙ ap (slice_get (sent_to (c j) i)) (sym same) ∙ h.flight.there in cc),
        sym e,
        sym same,
      ))
      (λ (other : taken c j i ≢ place).
      let w : taken c j i ≤ place = subst (λ (z : ℕ). taken c z i ≤ place) (sym e) flight.later in
      inl (omega (arith, w, other)))
      (cases_eq (taken c j i) place))
      (inl flight.later))

  pub hears-marks : (from place stamp : ℕ) (r : Ref)
      → IsInFlight c from i place (record { stamp = stamp; body = body.Mark r })
      → got_from q from ≤ place
  hears-marks from place stamp r flight = ⊎_elim {C = got_from q from ≤ place}
      (λ after. after)
      (λ is.
      absurd (let never : is_idle (body.Mark r) ≡ true =
      ap (λ (z : Message). is_idle z.body) is.0 ∙ h.idle in cc))
      (hears-others from place _ flight)
