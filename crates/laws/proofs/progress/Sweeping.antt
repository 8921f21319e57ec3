-- After the end of marking each node sweeps, and node 0 is told.
use Rattle.std.proofs.Common.{◌≡◌, ◌≢◌, ℕ, suc, ◌+◌, ◌*◌, ◌<◌, ◌≤◌, ◌⊎◌, ◌==◌, true, false, cond, List, [], ◌∷◌, length, drop, get_or, refl, sym, ap, ◌∙◌, ⊎_elim, inl, inr, arith, eqb-true, eq-eqb, lt-ltb}
use Rattle.std.specs.List.{list_all}
use Rattle.std.proofs.lemmas.List.Sums.{list_all-from_AllPass}
use Rattle.std.proofs.lemmas.List.Elements.{All-from_get_or}
use Rattle.std.proofs.lemmas.Bool.{cases_lt, cond_both, cond-true, cond-false, and_from, both_ways, not-true, not-false, eqb-false}
use Rattle.ids.specs.Limits.{Shaped}
use Rattle.msg.specs.declared.body.Body.{Body}
use Rattle.msg.specs.declared.body.Body.TheVariants as body
use Rattle.msg.specs.declared.body.Message.{Message}
use Rattle.model.specs.declared.event.Event.TheVariants as event
use Rattle.model.specs.State.{LocalState}
use Rattle.model.specs.Effects.{Effect}
use Rattle.model.specs.Counting.{stamped}
use Rattle.model.specs.Shading.{is_open}
use Rattle.model.specs.Collecting.{swept_slots, sweeps_last, reports_sweep, looked_at}
use Rattle.model.specs.World.{World, run}
use Rattle.model.specs.Cuts.{Cut, IsInFlight}
use Rattle.laws.proofs.Turns.{at_turn}
use Rattle.laws.proofs.Flights.{load_sent}
use Rattle.laws.proofs.Inner.{resting-joined}
use Rattle.laws.proofs.Invariant.{phases_of, cycle_of, Resting, on_way, is_sent, Inv}
use Rattle.laws.proofs.Live.{Whole, several}
use Rattle.laws.specs.Strategy.{Move, Do, now, is_unswept, next_move, next_steps}
use Rattle.laws.specs.Bounds.{sum_to, weight, work_left, whole_work, HasRoom}
use Rattle.laws.specs.Progress.{IsSwept}
use Rattle.laws.proofs.progress.Flights.{sum-same, sum-le, sum-at, sum-const, room-after, room-less, numbers-fit}
use Rattle.laws.proofs.progress.Paths.{Onward, Searches, Reaches, searched}
use Rattle.laws.proofs.progress.Choices.{Still, still-none, Chosen, brings, scans, passes, sweeps, begins, chosen}
use Rattle.laws.proofs.progress.Heard.{Heard}
use Rattle.laws.proofs.progress.Hearing.{new-swept, first-ended}
use Rattle.laws.proofs.progress.Spaces.{Reached, reached-whole, reached-heard, do-moved, Moved, Link, first-of, message_of, effect_there, would-take, link-brought, link-took}
use Rattle.laws.proofs.progress.Costs.{is_token, sweep-frees}
use Rattle.laws.proofs.progress.Falls.{nodes-turn, change-work, event-change, took-falls}
use Rattle.laws.proofs.progress.Ends.{Aim, marks, Over}

-- ---- how many nodes haven't swept

abbrev pub unswept_one : ℕ → LocalState → ℕ
unswept_one cycle p = cond (p.phases.swept == cycle) 0 1

abbrev pub unswept_count : ℕ → ℕ → Cut → ℕ
unswept_count n cycle c = sum_to n (λ i. unswept_one cycle (c i).local)

unswept-most : (n cycle : ℕ) (c : Cut) → unswept_count n cycle c ≤ n
unswept-most n cycle c =
    let a = sum-le n (λ i. unswept_one cycle (c i).local) (λ _. 1)
    (λ i _. cond_both ((c i).local.phases.swept == cycle) 0 1 (λ z. z ≤ 1)
    (λ _. omega arith) (λ _. omega arith)) in
    omega (arith, a, sum-const n 1)

-- each node has swept, and node 0 knows it
pub record Cleared (a : Aim) (w : World) : Type 0 where
  pub reached : Reached a.shape w
  pub next : next_move a.shape.nodes (now w) ≡ Do 0 event.Begin
  pub resting : Resting (phases_of (now w) 0)
  pub swept : IsSwept a.shape.nodes a.cycle (now w)
  pub room : HasRoom a.spare (now w)
  pub both : work_left a.shape.nodes (now w) + whole_work a.shape.nodes (now w) ≤ a.both

pub record Clearing (a : Aim) (w : World) (budget : ℕ) : Type 0 where
  pub reached : Reached a.shape w
  pub cycle : cycle_of (now w) 0 ≡ a.cycle
  pub ended : (phases_of (now w) 0).ended ≡ a.cycle
  pub room : HasRoom (budget + a.spare) (now w)
  pub both : work_left a.shape.nodes (now w) + whole_work a.shape.nodes (now w)
      + unswept_count a.shape.nodes a.cycle (now w) ≤ a.both
  pub enough : work_left a.shape.nodes (now w)
      + 3 * unswept_count a.shape.nodes a.cycle (now w) ≤ budget

-- ---- reports

reported-by : (xs : List ℕ) (cycle : ℕ)
    → ((i : ℕ) → 0 < i → i < length xs → get_or xs i 0 ≡ cycle)
    → list_all (λ r. r == cycle) (drop 1 xs) ≡ true
reported-by [] cycle all = refl
reported-by (x ∷ xs) cycle all =
    list_all-from_AllPass (λ r. r == cycle) xs
    (All-from_get_or (λ r. (r == cycle) ≡ true) xs 0
    (λ i below. eq-eqb _ _
    (all (suc i) (omega arith)
    (let k : suc i < length (x ∷ xs) = omega (arith, below) in k))))

-- once marking has ended, no token is in flight
pub resting-plain : {shape : Shaped} {c : Cut} {from to place stamp : ℕ} (b : Body) → Inv shape c
    → Resting (phases_of c 0) → IsInFlight c from to place (record { stamp = stamp; body = b })
    → is_token b ≡ false
resting-plain {from = from} {to = to} {place = place} {stamp = stamp} (body.Token t) inv resting
    flight =
    absurd (inv.tokens.rest t (on_way from to place) resting (is_sent from to place stamp flight))
resting-plain b inv resting flight = refl

-- Marking has ended, and nothing is in flight.
pub record Stilled (shape : Shaped) (cycle : ℕ) (c : Cut) : Type 0 where
  pub inv : Inv shape c
  pub heard : Heard shape.nodes c
  pub current : cycle_of c 0 ≡ cycle
  pub ended : (phases_of c 0).ended ≡ cycle
  pub still : Still shape.nodes c

-- so each node was told
pub told : {shape : Shaped} {cycle : ℕ} {c : Cut} → Stilled shape cycle c → (i : ℕ)
    → i < shape.nodes → (phases_of c i).ended ≡ cycle
told {cycle = cycle} {c = c} h i inside = ⊎_elim {C = (phases_of c i).ended ≡ cycle}
    (λ (less : (phases_of c i).ended < (phases_of c 0).ended).
    absurd
    (let at = h.heard.ended i inside less in
    still-none 0 i at.place _ h.inv.base h.still at.flight))
    (λ (more : (phases_of c 0).ended ≤ (phases_of c i).ended).
    (omega (arith, more, h.inv.phased.first i, h.ended)))
    (cases_lt (phases_of c i).ended (phases_of c 0).ended)

-- and node 0 too, once each has swept
pub swept-all : {shape : Shaped} {cycle : ℕ} {c : Cut} → 2 ≤ shape.nodes
    → Stilled shape cycle c → ((i : ℕ) → i < shape.nodes → (phases_of c i).swept ≡ cycle)
    → IsSwept shape.nodes cycle c
swept-all {shape = shape} {cycle = cycle} {c = c} several h swept =
    let reported : (i : ℕ) → 0 < i → i < length (phases_of c 0).reports
    → get_or (phases_of c 0).reports i 0 ≡ cycle_of c 0 =
    λ i above below.
    let inside : i < shape.nodes = omega (arith, h.inv.phased.reporters, below) in
    ⊎_elim {C = get_or (phases_of c 0).reports i 0 ≡ cycle_of c 0}
    (λ (less : get_or (phases_of c 0).reports i 0 < (phases_of c i).swept).
    absurd
    (let at = h.heard.swept i above inside less in
    still-none i 0 at.place _ h.inv.base h.still at.flight))
    (λ (more : (phases_of c i).swept ≤ get_or (phases_of c 0).reports i 0).
    omega (arith, more, h.inv.phased.reports i above inside, swept i inside, h.current))
    (cases_lt (get_or (phases_of c 0).reports i 0) (phases_of c i).swept) in
    record {
      current = h.current;
      swept = swept;
      reported =
          and_from _ _
          (eq-eqb _ _ (swept 0 (omega (arith, several)) ∙ sym h.current))
          (reported-by (phases_of c 0).reports (cycle_of c 0) reported);
    }

module _ {a : Aim} {w : World} {budget : ℕ} (g : Clearing a w budget) where
  abbrev n : ℕ
  n = a.shape.nodes

  abbrev c : Cut
  c = now w

  abbrev v : World
  v = run w (next_steps n w)

  whole : Whole a.shape c
  whole = reached-whole g.reached

  resting : Resting (phases_of c 0)
  resting = g.ended ∙ sym g.cycle

  stilled : Still n c → Stilled a.shape a.cycle c
  stilled still = record {
    inv = whole.inv;
    heard = reached-heard g.reached;
    current = g.cycle;
    ended = g.ended;
    still = still;
  }

  -- ---- a message is received

  receive-clearing : (from to : ℕ) → Link a.shape w from to → Onward n (Clearing a) w budget
  receive-clearing from to h =
      let x : Message = message_of h in
      let plain : is_token x.body ≡ false =
      resting-plain x.body whole.inv resting (first-of h) in
      let few : length (effect_there h).sends + 1 ≤ work_left n c =
      omega (arith, (took-falls (would-take h) (inl plain)).work) in
      let moved = link-brought h
      (numbers-fit c to (effect_there h).sends
      (room-less c (budget + a.spare) (length (effect_there h).sends)
      (omega (arith, few, g.enough)) g.room)) in
      let took = link-took h moved in
      let f = took-falls took (inl plain) in
      let same : unswept_count n a.cycle (now v) ≡ unswept_count n a.cycle c =
      sum-same n (λ i. unswept_one a.cycle (c i).local) (λ i. unswept_one a.cycle (now v i).local)
      (λ j _. ap (λ (z : ℕ). cond (z == a.cycle) 0 1) (new-swept took j)) in
      let rest : ℕ = work_left n (now v) + 3 * unswept_count n a.cycle (now v) in
      record {
        goes = moved.goes;
        rest = rest;
        less = omega (arith, f.work, same, g.enough);
        then = record {
          reached = moved.reached;
          cycle = f.cycle ∙ g.cycle;
          ended = first-ended took ∙ g.ended;
          room = room-after (budget + a.spare) (rest + a.spare) moved.turn
              (omega (arith, f.work, same, g.enough)) g.room;
          both = omega (arith, f.both, same, g.both);
          enough = omega arith;
        };
      }

  -- ---- a node sweeps

  sweep-clearing : (i : ℕ) → i < n → Still n c
      → next_move n c ≡ Do i (event.Sweep (length (c i).local.heap.slots))
      → is_unswept c i ≡ true → Onward n (Clearing a) w budget
  unfolding swept_slots
  sweep-clearing i inside still is unswept =
      let p : LocalState = (c i).local in
      let count : ℕ = length p.heap.slots in
      let x : Effect = swept_slots p count in
      let joined : p.phases.cycle ≡ a.cycle = resting-joined whole.inv resting inside ∙ g.cycle in
      let apart : (p.phases.swept == a.cycle) ≡ false =
      ap (λ (z : ℕ). p.phases.swept == z) (sym g.cycle) ∙ not-true _ unswept in
      let before : p.phases.swept ≢ a.cycle = eqb-false p.phases.swept a.cycle apart in
      let ready : p.phases.swept < p.phases.ended =
      omega (arith, told (stilled still) i inside, whole.inv.phased.swept i, before) in
      let placed = (reached-heard g.reached).placed i in
      let last : sweeps_last p count ≡ true =
      eq-eqb (p.phases.cursor + looked_at p count) count (omega (arith, placed)) in
      let one : (length x.sends ≤ 1) × (load_sent weight x.sends ≤ 1) =
      cond_both (reports_sweep p count) ((0, stamped p body.Swept) ∷ []) []
      (λ z. (length z ≤ 1) × (load_sent weight z ≤ 1))
      (λ _. (omega arith, omega arith)) (λ _. (omega arith, omega arith)) in
      let was : unswept_one a.cycle p ≡ 1 = cond-false (p.phases.swept == a.cycle) 0 1 apart in
      let is_now : unswept_one a.cycle x.local ≡ 0 =
      cond-true (x.local.phases.swept == a.cycle) 0 1
      (eq-eqb _ _ (cond-true (sweeps_last p count) p.phases.cycle p.phases.swept last ∙ joined)) in
      let some : 1 ≤ unswept_count n a.cycle c =
      omega (arith, sum-at n (λ j. unswept_one a.cycle (c j).local) i inside, was) in
      let moved : Moved a.shape w i x.local x.sends =
      do-moved w i (event.Sweep count) (record {
        reached = g.reached;
        chosen = is;
        inside = inside;
        own = refl;
        collectors = refl;
        passed = (lt-ltb _ _ ready, tt);
        numbered =
            numbers-fit c i x.sends
            (room-less c (budget + a.spare) (length x.sends)
            (omega (arith, one.0, some, g.enough)) g.room);
      }) in
      let frees = sweep-frees (cycle_of c 0) p count (whole.inv.rested.grey i resting) in
      let change = event-change n inside moved.turn refl refl in
      let work : work_left n (now v) ≤ work_left n c + 1 =
      omega (arith, change-work change, frees.0, one.1) in
      let keeps : whole_work n (now v) ≤ whole_work n c = omega (arith, change.held, frees.1) in
      let counts : unswept_count n a.cycle (now v) + 1 ≡ unswept_count n a.cycle c =
      omega (arith, nodes-turn n (unswept_one a.cycle) inside moved.turn, was, is_now) in
      let rest : ℕ = work_left n (now v) + 3 * unswept_count n a.cycle (now v) in
      record {
        goes = moved.goes;
        rest = rest;
        less = omega (arith, work, counts, g.enough);
        then = record {
          reached = moved.reached;
          cycle = change.cycle ∙ g.cycle;
          ended =
              at_turn (λ j s. s.local.phases.ended ≡ (phases_of c j).ended) moved.turn refl
              (λ j _. refl) 0 ∙ g.ended;
          room = room-after (budget + a.spare) (rest + a.spare) moved.turn
              (omega (arith, work, counts, g.enough, one.0)) g.room;
          both = omega (arith, work, keeps, counts, g.both);
          enough = omega arith;
        };
      }

  -- ---- all have swept

  all-cleared : next_move n c ≡ Do 0 event.Begin → Still n c
      → ((j : ℕ) → j < n → is_unswept c j ≡ false) → Cleared a w
  all-cleared next still all =
      record {
        reached = g.reached;
        next = next;
        resting = resting;
        swept =
            swept-all (several g.reached.limits) (stilled still)
            (λ i inside.
            eqb-true (phases_of c i).swept (cycle_of c 0) (not-false _ (all i inside)) ∙ g.cycle);
        room = room-less c (budget + a.spare) a.spare (omega arith) g.room;
        both = omega (arith, g.both);
      }

clearing-search : (a : Aim) → Searches a.shape.nodes (Clearing a) (Cleared a)
clearing-search a w budget g = by (next_move a.shape.nodes (now w)) refl (chosen inv)
  where
    inv : Inv a.shape (now w)
    inv = (reached-whole g.reached).inv

    shut : is_open (now w 0).local ≡ true → Cleared a w ⊎ Onward a.shape.nodes (Clearing a) w budget
    shut opened = absurd (both_ways _ (not-true _ opened) (eq-eqb _ _ (g.ended ∙ sym g.cycle)))

    by : (m : Move) → next_move a.shape.nodes (now w) ≡ m → Chosen a.shape.nodes (now w) m
        → Cleared a w ⊎ Onward a.shape.nodes (Clearing a) w budget
    by m is (brings from to f t waiting) =
        inr (receive-clearing g from to (record {
          reached = g.reached;
          chosen = is;
          sender = f;
          inside = t;
          waiting = waiting;
        }))
    by m is (scans i inside opened grey) = shut opened
    by m is (passes i inside still opened calm has) = shut opened
    by m is (sweeps i inside still closed unswept) =
        inr (sweep-clearing g i inside still is unswept)
    by m is (begins still closed all) = inl (all-cleared g is still all)

-- the aim after the end of marking: the messages that say so, and that nodes have swept, count too
abbrev pub cleared_aim : Aim → ℕ → Aim
cleared_aim a spare = record {
  shape = a.shape;
  cycle = a.cycle;
  work = a.work;
  both = a.both + 2 * a.shape.nodes;
  spare = spare;
}

pub clearing-ends : (a : Aim) (spare : ℕ) (w : World)
    → a.work + 4 * a.shape.nodes + spare ≤ a.spare → Over (marks a) w
    → Reaches a.shape.nodes (Cleared (cleared_aim a spare)) (a.work + 4 * a.shape.nodes) w
clearing-ends a spare w room over =
    let n : ℕ = a.shape.nodes in
    let count = unswept-most n a.cycle (now w) in
    searched (clearing-search (cleared_aim a spare)) w (a.work + 4 * n) (record {
      reached = over.known.reached;
      cycle = over.known.cycle;
      ended = over.ended;
      room = room-less (now w) a.spare (a.work + 4 * n + spare) room over.room;
      both = omega (arith, over.known.keeps.both, count);
      enough = omega (arith, over.known.keeps.few, count);
    })
