-- Steps in any order once marking has ended: each that changes anything takes some of what is left.
use Rattle.std.proofs.Common.{◌≡◌, ◌≢◌, ℕ, ◌+◌, ◌-◌, ◌<◌, ◌≤◌, ◌⊎◌, ◌==◌, ◌&&◌, ltb-true, Bool, true, not, cond, List, [], ◌∷◌, length, Err, refl, sym, ap, ◌∙◌, ⊎_elim, inl, inr, arith, eq-eqb}
use Rattle.std.specs.List.{AllByRecursion}
use Rattle.std.proofs.lemmas.Bool.{cases_Bool, cond_both, cond-true, cond-false, both_ways, ne_eqb, eqb-false}
use Rattle.ids.specs.Limits.{Shaped}
use Rattle.ids.specs.declared.refusal.Refusal.TheVariants.{LinkSpent}
use Rattle.msg.specs.declared.body.Body.TheVariants as body
use Rattle.msg.specs.declared.body.Message.{Message}
use Rattle.model.specs.declared.step.Step.{Step}
use Rattle.model.specs.State.{LocalState}
use Rattle.model.specs.Counting.{stamped}
use Rattle.model.specs.Collecting.{swept_slots, sweeps_last, reports_sweep, looked_at}
use Rattle.model.specs.World.{World, happens, run, outcomes}
use Rattle.model.specs.Cuts.{Cut, taken, IsInFlight}
use Rattle.laws.proofs.Flights.{load_sent}
use Rattle.laws.proofs.Turns.{Turn, at_turn}
use Rattle.laws.proofs.Rounds.{some-of}
use Rattle.laws.proofs.Inner.{resting-joined}
use Rattle.laws.proofs.Invariant.{phases_of, cycle_of, Resting, at_node, is_held, Inv}
use Rattle.laws.specs.Strategy.{now}
use Rattle.laws.specs.Bounds.{sum_to, weight, work_left}
use Rattle.laws.specs.Fairness.{is_turns}
use Rattle.laws.proofs.progress.Flights.{sum-same}
use Rattle.laws.proofs.progress.Spaces.{Reached, reached-whole, reached-heard, reached-more}
use Rattle.laws.proofs.progress.Costs.{sweep-frees}
use Rattle.laws.proofs.progress.Heard.{Heard}
use Rattle.laws.proofs.progress.Hearing.{Took, stamp-latest, took-joins, took-cycle, first-ended, new-swept}
use Rattle.laws.proofs.progress.Falls.{nodes-turn, change-work, event-change, took-falls}
use Rattle.laws.proofs.progress.Sweeping.{resting-plain}
use Rattle.laws.proofs.progress.Turning.{Excuse, Did, rests, takes, scans, passes, sweeps, did}
use Rattle.laws.proofs.progress.Widths.{taken-width, swept-width}
use Rattle.laws.proofs.progress.Listed.{AllRest, rest-same}

-- ---- what is left

-- For a node that hasn't swept: 2, which pays for its report, and its slots behind the cursor.
abbrev pub sweep_cost : (cycle swept slots cursor : ℕ) → ℕ
sweep_cost cycle swept slots cursor = cond (swept == cycle) 0 (2 + (slots - cursor))

abbrev pub sweep_work : ℕ → LocalState → ℕ
sweep_work cycle p = sweep_cost cycle p.phases.swept (length p.heap.slots) p.phases.cursor

abbrev pub sweeps_left : ℕ → ℕ → Cut → ℕ
sweeps_left n cycle c = sum_to n (λ i. sweep_work cycle (c i).local)

abbrev pub rest_left : ℕ → ℕ → Cut → ℕ
rest_left n cycle c = work_left n c + sweeps_left n cycle c

-- ---- a step

pub record Ended (shape : Shaped) (cycle : ℕ) (c : Cut) : Type 0 where
  pub inv : Inv shape c
  pub heard : Heard shape.nodes c
  pub current : cycle_of c 0 ≡ cycle
  pub ended : (phases_of c 0).ended ≡ cycle

-- a message is in flight, or a node has something to sweep
pub data Busy (n : ℕ) (c : Cut) : Type 0 where
  waits : (from to place : ℕ) (x : Message) → IsInFlight c from to place x → Busy n c
  ready : (i : ℕ) → i < n → (phases_of c i).swept < (phases_of c i).ended → Busy n c

-- the step takes some of what is left
pub record Takes (shape : Shaped) (cycle : ℕ) (c d : Cut) : Type 0 where
  pub busy : Busy shape.nodes c
  pub current : cycle_of d 0 ≡ cycle
  pub ended : (phases_of d 0).ended ≡ cycle
  pub left : rest_left shape.nodes cycle d + 1 ≤ rest_left shape.nodes cycle c

at-rest : {shape : Shaped} {cycle : ℕ} {c : Cut} → Ended shape cycle c → Resting (phases_of c 0)
at-rest e = e.ended ∙ sym e.current

module _ {shape : Shaped} {cycle : ℕ} {c d : Cut} (e : Ended shape cycle c) where
  -- a message is received
  take-rest : (from to : ℕ) (x : Message) → Took shape c d from to x → Takes shape cycle c d
  take-rest from to x took =
      let n : ℕ = shape.nodes in
      let plain = resting-plain x.body e.inv (at-rest e) took.flight in
      let work = (took-falls took (inl plain)).work in
      let latest = stamp-latest took in
      let here : cycle_of c to ≡ cycle_of c 0 = resting-joined e.inv (at-rest e) took.inside in
      let cursor : (j : ℕ) → (phases_of d j).cursor ≡ (phases_of c j).cursor =
      at_turn (λ j s. s.local.phases.cursor ≡ (phases_of c j).cursor) took.turn
      (⊎_elim (λ ahead. absurd (let a = ahead.0 in omega (arith, a, here, latest)))
      (λ stays. stays.2) (took-joins took)) (λ j _. refl) in
      let width : (j : ℕ) → length (d j).local.heap.slots ≡ length (c j).local.heap.slots =
      at_turn (λ j s. length s.local.heap.slots ≡ length (c j).local.heap.slots) took.turn
      (taken-width (c to).local from (taken c from to + 1) x.stamp x.body) (λ j _. refl) in
      let same : sweeps_left n cycle d ≡ sweeps_left n cycle c =
      sum-same n (λ j. sweep_work cycle (c j).local) (λ j. sweep_work cycle (d j).local)
      (λ j _.
      ap (λ (z : ℕ). sweep_cost cycle z (length (d j).local.heap.slots) (phases_of d j).cursor)
      (new-swept took j)
      ∙ ap (λ (z : ℕ). sweep_cost cycle (phases_of c j).swept z (phases_of d j).cursor) (width j)
      ∙ ap (λ (z : ℕ).
      sweep_cost cycle (phases_of c j).swept (length (c j).local.heap.slots) z) (cursor j)) in
      record {
        busy = waits from to (taken c from to) x took.flight;
        current = took-cycle took ∙ e.current;
        ended = first-ended took ∙ e.ended;
        left = omega (arith, work, same);
      }

  -- a node sweeps some slots
  sweep-rest : (i count : ℕ) → i < shape.nodes → 0 < count
      → (phases_of c i).swept < (phases_of c i).ended
      → Turn c d i (swept_slots (c i).local count).local (swept_slots (c i).local count).sends
      → Takes shape cycle c d
  unfolding swept_slots
  sweep-rest i count inside some may turn =
      let n : ℕ = shape.nodes in
      let p : LocalState = (c i).local in
      let q : LocalState = (swept_slots p count).local in
      let ms : List (ℕ × Message) = (swept_slots p count).sends in
      let first = e.inv.phased.first i in
      let joined : p.phases.cycle ≡ cycle = resting-joined e.inv (at-rest e) inside ∙ e.current in
      let ended = e.ended in
      let before : p.phases.swept ≢ cycle = λ is. omega (arith, is, may, first, ended) in
      let was : sweep_work cycle p ≡ 2 + (length p.heap.slots - p.phases.cursor) =
      cond-false (p.phases.swept == cycle) 0 _ (ne_eqb _ _ before) in
      let wide : length q.heap.slots ≡ length p.heap.slots = swept-width p count in
      let frees = (sweep-frees (cycle_of c 0) p count (e.inv.rested.grey i (at-rest e))).0 in
      let change = event-change n inside turn refl refl in
      let placed = e.heard.placed i in
      let falls : sweep_work cycle q + load_sent weight ms + 1 ≤ sweep_work cycle p =
      ⊎_elim {C = sweep_work cycle q + load_sent weight ms + 1 ≤ sweep_work cycle p}
      (λ last.
      let is_now : sweep_work cycle q ≡ 0 =
      cond-true (q.phases.swept == cycle) 0 _
      (eq-eqb _ _ (cond-true (sweeps_last p count) p.phases.cycle p.phases.swept last ∙ joined)) in
      let one : load_sent weight ms ≤ 1 =
      cond_both (reports_sweep p count) ((0, stamped p body.Swept) ∷ []) []
      (λ z. load_sent weight z ≤ 1) (λ _. omega arith) (λ _. omega arith) in
      omega (arith, was, is_now, one))
      (λ more.
      let swept : q.phases.swept ≡ p.phases.swept =
      cond-false (sweeps_last p count) p.phases.cycle p.phases.swept more in
      let cursor : q.phases.cursor ≡ p.phases.cursor + looked_at p count =
      cond-false (sweeps_last p count) 0 (p.phases.cursor + looked_at p count) more in
      let apart = eqb-false (p.phases.cursor + looked_at p count) (length p.heap.slots) more in
      let is_now : sweep_work cycle q ≤ 2 + (length q.heap.slots - q.phases.cursor) =
      cond_both (q.phases.swept == cycle) 0 (2 + (length q.heap.slots - q.phases.cursor))
      (λ z. z ≤ 2 + (length q.heap.slots - q.phases.cursor))
      (λ _. omega arith) (λ _. omega arith) in
      let none : ms ≡ [] =
      cond-false (reports_sweep p count) ((0, stamped p body.Swept) ∷ []) []
      (ap (λ (b : Bool). b && not (p.own == 0)) more) in
      let load : load_sent weight ms ≡ 0 = ap (load_sent weight) none in
      omega (arith, was, is_now, load, cursor, wide, apart, some, placed))
      (cases_Bool (sweeps_last p count)) in
      let sums = nodes-turn n (sweep_work cycle) inside turn in
      record {
        busy = ready i inside may;
        current = change.cycle ∙ e.current;
        ended =
            at_turn (λ j s. s.local.phases.ended ≡ (phases_of c j).ended) turn refl
            (λ j _. refl) 0 ∙ e.ended;
        left = omega (arith, change-work change, frees, sums, falls);
      }

  pub rest-step : (s : Step) → is_turns s ≡ true → Did shape c d s
      → ((d ≡ c) × Excuse c s) ⊎ Takes shape cycle c d
  rest-step s turns (rests same excuse) = inl (same, excuse)
  rest-step s turns (takes from to x took act) = inr (take-rest from to x took)
  rest-step s turns (scans i inside grey turn) =
      absurd
      (both_ways _
      (ap (λ (z : List ℕ). not (length z == 0)) (e.inv.rested.grey i (at-rest e))) grey)
  rest-step s turns (passes i inside has calm is turn) =
      let t = some-of (c i).local.ring.token has in
      absurd (e.inv.tokens.rest t.0 (at_node i) (at-rest e) (is_held i t.1))
  rest-step s turns (sweeps i count inside may is turn) =
      inr (sweep-rest i count inside
      (ltb-true 0 count (sym (ap is_turns is) ∙ turns)) may turn)

-- ---- steps one after another

pub record Rests (shape : Shaped) (cycle : ℕ) (w : World) : Type 0 where
  pub reached : Reached shape w
  pub current : cycle_of (now w) 0 ≡ cycle
  pub ended : (phases_of (now w) 0).ended ≡ cycle

pub rests-ended : {shape : Shaped} {cycle : ℕ} {w : World} → Rests shape cycle w
    → Ended shape cycle (now w)
rests-ended r = record {
  inv = (reached-whole r.reached).inv;
  heard = reached-heard r.reached;
  current = r.current;
  ended = r.ended;
}

-- steps of the collector within a cycle, none of which lacks a number
pub record Turned (w : World) (ss : List Step) : Type 0 where
  pub turns : AllByRecursion (λ s. is_turns s ≡ true) ss
  pub numbered : AllByRecursion (λ o. o ≢ Err LinkSpent) (outcomes w ss)

pub turned-on : {w : World} {s : Step} {ss : List Step} → Turned w (s ∷ ss)
    → Turned (happens w s) ss
turned-on t = record { turns = t.turns.1; numbered = t.numbered.1 }

-- nothing changes, or something is taken of what is left
pub data RestRun (shape : Shaped) (cycle : ℕ) (w : World) (ss : List Step) : Type 0 where
  all_rest : AllRest w ss → RestRun shape cycle w ss
  left_less : rest_left shape.nodes cycle (now (run w ss)) + 1
      ≤ rest_left shape.nodes cycle (now w) → RestRun shape cycle w ss

pub rest-run : {shape : Shaped} {cycle : ℕ} (w : World) (ss : List Step) → Rests shape cycle w
    → Turned w ss → Rests shape cycle (run w ss) × RestRun shape cycle w ss
rest-run w [] r t = (r, all_rest tt)
rest-run {shape} {cycle} w (s ∷ ss) r t =
    by (λ next. rest-run u ss next (turned-on t))
    (rest-step (rests-ended r) s t.turns.0 (did r.reached s t.turns.0 t.numbered.0))
  where
    u : World
    u = happens w s

    Runs : Type 0
    Runs = Rests shape cycle (run u ss) × RestRun shape cycle w (s ∷ ss)

    by : (Rests shape cycle u → Rests shape cycle (run u ss) × RestRun shape cycle u ss)
        → ((now u ≡ now w) × Excuse (now w) s) ⊎ Takes shape cycle (now w) (now u) → Runs
    by go (inl same) =
        let later = go (record {
          reached = reached-more (s ∷ []) r.reached;
          current = ap (λ (z : Cut). cycle_of z 0) same.0 ∙ r.current;
          ended = ap (λ (z : Cut). (phases_of z 0).ended) same.0 ∙ r.ended;
        }) in
        (later.0, on later.1)
      where
        on : RestRun shape cycle u ss → RestRun shape cycle w (s ∷ ss)
        on (all_rest all) = all_rest (same.0, same.1, all)
        on (left_less less) =
            left_less
            (let e = ap (λ (z : Cut). rest_left shape.nodes cycle z) same.0 in
            omega (arith, less, e))
    by go (inr takes_some) =
        let later = go (record {
          reached = reached-more (s ∷ []) r.reached;
          current = takes_some.current;
          ended = takes_some.ended;
        }) in
        (later.0, left_less (on later.1))
      where
        on : RestRun shape cycle u ss
            → rest_left shape.nodes cycle (now (run u ss)) + 1
            ≤ rest_left shape.nodes cycle (now w)
        on (all_rest all) =
            let e = ap (λ (z : Cut). rest_left shape.nodes cycle z) (rest-same u ss all) in
            omega (arith, takes_some.left, e)
        on (left_less less) = omega (arith, takes_some.left, less)
