-- Rounds lead to the end of marking and of the cycle, whatever the order of the steps in them. So
-- garbage goes.
use Rattle.std.proofs.Common.{◌≡◌, ◌≢◌, ℕ, suc, ◌+◌, ◌-◌, ◌*◌, ◌<◌, ◌≤◌, ◌==◌, ltb-true, lt-ltb, true, false, cond, List, [], ◌∷◌, ◌++◌, length, Err, refl, sym, ap, ◌∙◌, subst, ⊎_elim, arith, eq-eqb, mul-le-mul_left}
use Rattle.std.specs.List.{AllByRecursion}
use Rattle.std.proofs.lemmas.Bool.{both_ways, cond_both, cond-true, cond-false, cases_Bool, cases_eq, ne_eqb}
use Rattle.ids.specs.Limits.{Shaped}
use Rattle.ids.specs.declared.limits.TheConstants.{GREATEST_CYCLE}
use Rattle.ids.specs.declared.refusal.Refusal.TheVariants.{LinkSpent}
use Rattle.model.specs.declared.event.Event.TheVariants as event
use Rattle.model.specs.declared.step.Step.{Step}
use Rattle.model.specs.declared.step.Step.TheVariants as step
use Rattle.model.specs.State.{LocalState, NodeState}
use Rattle.model.specs.Checks.{AllPass}
use Rattle.model.specs.Steps.{tests}
use Rattle.model.specs.World.{World, new_world, happens, run, take_step, outcome_of}
use Rattle.model.specs.Cuts.{Cut, taken}
use Rattle.model.proofs.References.{all-append}
use Rattle.laws.proofs.Live.{several}
use Rattle.laws.proofs.Invariant.{phases_of, cycle_of, Inv}
use Rattle.laws.specs.Statements.{OfSpaces, StaysUp}
use Rattle.laws.specs.Strategy.{now, is_waiting}
use Rattle.laws.specs.Bounds.{work_left}
use Rattle.laws.specs.Progress.{current_cycle, HasEnded, IsSwept, IsGone, saves}
use Rattle.laws.specs.Fairness.{is_turns, IsRound, AreRounds, steps_in, after_rounds, begun_after, marking_rounds, sweeping_rounds, cycle_rounds, RoundsEndMarking, RoundsEndCycle, RoundsLetBegin, RoundsFreeGarbage}
use Rattle.laws.proofs.progress.Paths.{run-append}
use Rattle.laws.proofs.progress.Flights.{sum-le, sum-one, sum-const}
use Rattle.laws.proofs.progress.Spaces.{Reached, reached-whole, reached-heard, reached-more}
use Rattle.laws.proofs.progress.Choices.{Still, still-none}
use Rattle.laws.proofs.progress.Stages.{Budget, budget-new}
use Rattle.laws.proofs.progress.Sweeping.{Stilled, told, swept-all}
use Rattle.laws.proofs.progress.Turning.{did, acts-ok, ok-acts}
use Rattle.laws.proofs.progress.Idling.{unjoined, unjoined_one, Quiet, MarkStep, idles, falls, finds, mark-step}
use Rattle.laws.proofs.progress.Listed.{AllRest, rest-same, rest-excuse}
use Rattle.laws.proofs.progress.Resting.{rest_left, Busy, waits, ready, Rests, rests-ended, rest-step, Turned, turned-on, RestRun, all_rest, left_less, rest-run}
use Rattle.laws.proofs.progress.Marching.{Marks, Over, Idly, Went, over, less, idle, sweeps-most, over-run, went, quiet-start, idle-quiet-run, RingRun, stood, moved, ring-run, stood-never}
use Rattle.laws.proofs.progress.Theorems.{begun-costs, reached-now, is_resolving, gone-after}

turned : {n : ℕ} {w : World} {ss : List Step} → IsRound n w ss → Turned w ss
turned r = record { turns = r.turns; numbered = r.numbered }

-- ---- marking

-- How many rounds may be needed, if anything may happen, and if all is quiet. The token needs its
-- moves again after a node has joined.
abbrev joins_left : ℕ → Cut → ℕ
joins_left n c = 6 * n * unjoined n c

-- all is quiet, and the token has moves left
record Calm (shape : Shaped) (cycle most : ℕ) (w : World) (k : ℕ) : Type 0 where
  marks : Marks shape cycle most w
  quiet : Quiet shape.nodes (now w)
  budget : ℕ
  spends : Budget shape.nodes (now w) 0 budget
  enough : work_left shape.nodes (now w) + joins_left shape.nodes (now w) + budget ≤ k

data Ahead (shape : Shaped) (cycle most : ℕ) (w : World) (k : ℕ) : Type 0 where
  active : Marks shape cycle most w
      → work_left shape.nodes (now w) + joins_left shape.nodes (now w) + 6 * shape.nodes ≤ k
      → Ahead shape cycle most w k
  calm : Calm shape cycle most w k → Ahead shape cycle most w k

-- a round later
data Later (shape : Shaped) (cycle most : ℕ) (w : World) (k : ℕ) : Type 0 where
  found : Over shape cycle most w → Later shape cycle most w k
  nearer : (j : ℕ) → j < k → Ahead shape cycle most w j → Later shape cycle most w k

module _ {shape : Shaped} {cycle most : ℕ} {w : World} {k : ℕ} (ss : List Step)
    (r : IsRound shape.nodes w ss) where
  -- only the token has moved
  quiet-round : Calm shape cycle most w k → Idly shape cycle most w ss
      → Later shape cycle most (run w ss) k
  quiet-round c h =
      by (ring-run w ss c.budget c.marks.reached c.marks.marking h.all c.quiet c.spends)
    where
      by : RingRun shape w ss c.budget → Later shape cycle most (run w ss) k
      by (stood rest) = absurd (stood-never w ss c.marks c.quiet r rest)
      by (moved left fewer spends) =
          let times : 6 * shape.nodes * unjoined shape.nodes (now (run w ss))
          ≤ 6 * shape.nodes * unjoined shape.nodes (now w) =
          mul-le-mul_left (6 * shape.nodes) h.joins in
          let work = h.work in
          let enough = c.enough in
          let j : ℕ = work_left shape.nodes (now (run w ss))
          + joins_left shape.nodes (now (run w ss)) + left in
          nearer j (omega (arith, times, work, fewer, enough))
          (calm (record {
            marks = h.marks;
            quiet = idle-quiet-run shape w ss h.all c.quiet;
            budget = left;
            spends = spends;
            enough = omega arith;
          }))

  next-round : Ahead shape cycle most w k → Later shape cycle most (run w ss) k
  next-round (active m enough) = by (went w ss m (turned r))
    where
      by : Went shape cycle most w ss → Later shape cycle most (run w ss) k
      by (over o) = found o
      by (less marks work joins quiet) =
          let times : 6 * shape.nodes * unjoined shape.nodes (now (run w ss))
          ≤ 6 * shape.nodes * unjoined shape.nodes (now w) =
          mul-le-mul_left (6 * shape.nodes) joins in
          nearer (k - 1) (omega (arith, work, enough))
          (active marks (omega (arith, times, work, enough)))
      by (idle h) =
          quiet-round (record {
            marks = m;
            quiet = quiet-start w ss m h.all r;
            budget = 6 * shape.nodes;
            spends = budget-new 0 (6 * shape.nodes) (reached-whole m.reached).inv m.marking
                (omega arith);
            enough = enough;
          }) h
  next-round (calm c) = by (went w ss c.marks (turned r))
    where
      by : Went shape cycle most w ss → Later shape cycle most (run w ss) k
      by (over o) = found o
      by (less marks work joins falls_so) =
          let times : 6 * shape.nodes * (unjoined shape.nodes (now (run w ss)) + 1)
          ≤ 6 * shape.nodes * unjoined shape.nodes (now w) =
          mul-le-mul_left (6 * shape.nodes) (falls_so c.quiet) in
          let enough = c.enough in
          nearer (k - 1) (omega (arith, work, enough))
          (active marks (omega (arith, times, work, enough)))
      by (idle h) = quiet-round c h

-- some round is still needed
ahead-some : {shape : Shaped} {cycle most : ℕ} {w : World} {k : ℕ} → Ahead shape cycle most w k
    → 0 < k
ahead-some (active m enough) =
    let many = several m.reached.limits in omega (arith, many, enough)
ahead-some (calm c) =
    let some = c.spends.enough in
    let enough = c.enough in omega (arith, some, enough)

after-one : (w : World) (ss : List Step) (rs : List (List Step))
    → after_rounds (run w ss) rs ≡ after_rounds w (ss ∷ rs)
after-one w ss rs = sym (run-append w ss (steps_in rs))

marking-rounds : {shape : Shaped} {cycle most : ℕ} (rs : List (List Step)) (w : World) (k : ℕ)
    → Later shape cycle most w (suc k) → AreRounds shape.nodes w rs → k ≤ length rs
    → Over shape cycle most (after_rounds w rs)
marking-rounds [] w k (found o) are le = o
marking-rounds [] w k (nearer j below a) are le =
    absurd (let some = ahead-some a in omega (arith, some, below, le))
marking-rounds {shape} {cycle} {most} (ss ∷ rs) w k (found o) are le =
    subst (Over shape cycle most) (after-one w ss rs)
    (marking-rounds rs (run w ss) (k - 1) (found (over-run w ss o (turned are.0))) are.1
    (omega (arith, le)))
marking-rounds {shape} {cycle} {most} (ss ∷ rs) w k (nearer j below a) are le =
    subst (Over shape cycle most) (after-one w ss rs)
    (marking-rounds rs (run w ss) (j - 1) (by (next-round ss are.0 a)) are.1
    (omega (arith, le, below)))
  where
    by : Later shape cycle most (run w ss) j → Later shape cycle most (run w ss) (suc (j - 1))
    by (found o) = found o
    by (nearer i fewer b) = nearer i (omega (arith, fewer)) b

-- ---- the cycle

-- each node has swept, and nothing is in flight
record Done (shape : Shaped) (cycle : ℕ) (w : World) : Type 0 where
  rests : Rests shape cycle w
  still : Still shape.nodes (now w)
  swept : (i : ℕ) → i < shape.nodes → (phases_of (now w) i).swept ≡ cycle

stilled : {shape : Shaped} {cycle : ℕ} {w : World} → Rests shape cycle w
    → Still shape.nodes (now w) → Stilled shape cycle (now w)
stilled r still = record {
  inv = (reached-whole r.reached).inv;
  heard = reached-heard r.reached;
  current = r.current;
  ended = r.ended;
  still = still;
}

-- the same states are done
done-same : {shape : Shaped} {cycle : ℕ} (w v : World) → now v ≡ now w → Rests shape cycle v
    → Done shape cycle w → Done shape cycle v
done-same {shape} {cycle} w v same r d = record {
  rests = r;
  still = subst (λ (z : Cut). Still shape.nodes z) (sym same) d.still;
  swept = subst (λ (z : Cut). (i : ℕ) → i < shape.nodes → (phases_of z i).swept ≡ cycle)
      (sym same) d.swept;
}

never-busy : {shape : Shaped} {cycle : ℕ} {w : World} → Done shape cycle w
    → Busy shape.nodes (now w) → ⊥
never-busy d (waits from to place x flight) =
    still-none from to place x (reached-whole d.rests.reached).inv.base d.still flight
never-busy d (ready i inside may) =
    let first = (reached-whole d.rests.reached).inv.phased.first i in
    let ended = d.rests.ended in
    let swept = d.swept i inside in
    omega (arith, may, first, ended, swept)

done-run : {shape : Shaped} {cycle : ℕ} (w : World) (ss : List Step) → Done shape cycle w
    → Turned w ss → Done shape cycle (run w ss)
done-run w [] d t = d
done-run {shape} {cycle} w (s ∷ ss) d t =
    ⊎_elim {C = Done shape cycle (run w (s ∷ ss))}
    (λ same.
    done-run (happens w s) ss
    (done-same w (happens w s) same.0 (record {
      reached = reached-more (s ∷ []) d.rests.reached;
      current = ap (λ (z : Cut). cycle_of z 0) same.0 ∙ d.rests.current;
      ended = ap (λ (z : Cut). (phases_of z 0).ended) same.0 ∙ d.rests.ended;
    }) d) (turned-on t))
    (λ takes_some. absurd (never-busy d takes_some.busy))
    (rest-step (rests-ended d.rests) s t.turns.0
    (did d.rests.reached s t.turns.0 t.numbered.0))

-- a round that changes nothing finds all done
round-done : {shape : Shaped} {cycle : ℕ} (w : World) (ss : List Step) → Rests shape cycle w
    → IsRound shape.nodes w ss → AllRest w ss → Done shape cycle w
round-done {shape} {cycle} w ss r round all =
    let still : Still shape.nodes (now w) =
    λ from to f t. ⊎_elim {C = is_waiting (now w) from to ≡ false}
    (λ waiting.
    absurd
    (let came = round.comes_in from to 0 f t (omega arith)
    (let k = ltb-true _ _ waiting in omega (arith, k)) in
    let same : taken (now (run w ss)) from to ≡ taken (now w) from to =
    ap (λ (z : Cut). taken z from to) (rest-same w ss all) in
    omega (arith, came, same)))
    (λ none. none) (cases_Bool (is_waiting (now w) from to)) in
    record {
      rests = r;
      still = still;
      swept = λ i inside.
          (let turn = round.each i inside in
          let excuse = rest-excuse w ss (step.Act i (event.Sweep turn.count)) all turn.sweep in
          let sound = (reached-whole r.reached).inv.phased.swept i in
          let ended = told (stilled r still) i inside in
          omega (arith, excuse, sound, ended));
    }

-- how far it is to the end of the cycle
data Course (shape : Shaped) (cycle most : ℕ) (w : World) (k : ℕ) : Type 0 where
  marking : (j : ℕ) → Ahead shape cycle most w j → j + most ≤ k → Course shape cycle most w k
  sweeping : Rests shape cycle w → rest_left shape.nodes cycle (now w) < k
      → Course shape cycle most w k
  done : Done shape cycle w → Course shape cycle most w k

next-course : {shape : Shaped} {cycle most : ℕ} {w : World} {k : ℕ} (ss : List Step)
    → IsRound shape.nodes w ss → Course shape cycle most w (suc k)
    → Course shape cycle most (run w ss) k
next-course {shape} {cycle} {most} {w} {k} ss r (marking j a enough) = by (next-round ss r a)
  where
    by : Later shape cycle most (run w ss) j → Course shape cycle most (run w ss) k
    by (found o) =
        sweeping o.rests
        (let left = o.left in
        let some = ahead-some a in
        let many = several o.rests.reached.limits in
        omega (arith, left, some, many, enough))
    by (nearer i fewer b) = marking i b (omega (arith, fewer, enough))
next-course {shape} {cycle} {most} {w} {k} ss r (sweeping rests enough) =
    by (rest-run w ss rests (turned r))
  where
    by : Rests shape cycle (run w ss) × RestRun shape cycle w ss
        → Course shape cycle most (run w ss) k
    by (rests_then, all_rest all) =
        done (done-same w (run w ss) (rest-same w ss all) rests_then
        (round-done w ss rests r all))
    by (rests_then, left_less fewer) = sweeping rests_then (omega (arith, fewer, enough))
next-course {w = w} ss r (done d) = done (done-run w ss d (turned r))

course-ends : {shape : Shaped} {cycle most : ℕ} (rs : List (List Step)) (w : World) (k : ℕ)
    → Course shape cycle most w k → AreRounds shape.nodes w rs → k ≤ length rs
    → Done shape cycle (after_rounds w rs)
course-ends [] w k (marking j a enough) are le =
    absurd (let some = ahead-some a in omega (arith, some, enough, le))
course-ends [] w k (sweeping rests enough) are le = absurd (omega (arith, enough, le))
course-ends [] w k (done d) are le = d
course-ends {shape} {cycle} {most} (ss ∷ rs) w k course are le =
    subst (Done shape cycle) (after-one w ss rs)
    (course-ends rs (run w ss) (length rs) (next-course ss are.0 (later k course le)) are.1
    (omega arith))
  where
    later : (j : ℕ) → Course shape cycle most w j → j ≤ suc (length rs)
        → Course shape cycle most w (suc (length rs))
    later j (marking i a enough) below = marking i a (omega (arith, enough, below))
    later j (sweeping rests enough) below = sweeping rests (omega (arith, enough, below))
    later j (done d) below = done d

-- ---- a space after any steps

-- node 0 is in its cycle
unjoined-most : (n : ℕ) (c : Cut) → 0 < n → unjoined n c + 1 ≤ n
unjoined-most n c some =
    let f : ℕ → ℕ = λ j. unjoined_one (cycle_of c 0) (c j).local in
    let g : ℕ → ℕ = λ j. cond (j == 0) 0 1 in
    let le = sum-le n f g
    (λ j _. ⊎_elim {C = f j ≤ g j}
    (λ (first : j ≡ 0).
    let none : f j ≡ 0 =
    cond-true (cycle_of c j == cycle_of c 0) 0 1 (eq-eqb _ _ (ap (cycle_of c) first)) in
    omega (arith, none))
    (λ (other : j ≢ 0).
    let one : g j ≡ 1 = cond-false (j == 0) 0 1 (ne_eqb j 0 other) in
    cond_both (cycle_of c j == cycle_of c 0) 0 1 (λ z. z ≤ g j) (λ _. omega arith)
    (λ _. omega (arith, one)))
    (cases_eq j 0)) in
    let all = sum-one n (λ _. 1) g 0 some
    (λ j _ other. cond-false (j == 0) 0 1 (ne_eqb j 0 other)) in
    omega (arith, le, all, sum-const n 1)

data Start (shape : Shaped) (w : World) : Type 0 where
  goes_on : Marks shape (current_cycle w) (sweeping_rounds shape.nodes (now w)) w
      → Ahead shape (current_cycle w) (sweeping_rounds shape.nodes (now w)) w
      (marking_rounds shape.nodes (now w)) → Start shape w
  has_ended : Over shape (current_cycle w) (sweeping_rounds shape.nodes (now w)) w
      → Start shape w

start : (shape : Shaped) (w : World) → Reached shape w → Start shape w
start shape w r =
    let n : ℕ = shape.nodes in
    let inv : Inv shape (now w) = (reached-whole r).inv in
    ⊎_elim {C = Start shape w}
    (λ (rest : (phases_of (now w) 0).ended ≡ cycle_of (now w) 0).
    let most = sweeps-most n (current_cycle w) (now w) in
    has_ended (record {
      rests = record { reached = r; current = refl; ended = rest };
      left = omega (arith, most);
    }))
    (λ (other : (phases_of (now w) 0).ended ≢ cycle_of (now w) 0).
    let m : Marks shape (current_cycle w) (sweeping_rounds n (now w)) w = record {
      reached = r;
      current = refl;
      marking = (let e = inv.phased.ended 0 in omega (arith, e, other));
      within = omega arith;
    } in
    let few = unjoined-most n (now w) (let many = several r.limits in omega (arith, many)) in
    let times : 6 * n * (unjoined n (now w) + 1) ≤ 6 * n * n = mul-le-mul_left (6 * n) few in
    goes_on m (active m (omega (arith, times))))
    (cases_eq (phases_of (now w) 0).ended (cycle_of (now w) 0))

pub rounds-end-marking : OfSpaces RoundsEndMarking
rounds-end-marking shape limits steps rs are enough =
    let w : World = run (new_world shape) steps in
    by w (start shape w (reached-now shape limits steps)) are enough
  where
    ended : (w v : World) → Over shape (current_cycle w) (sweeping_rounds shape.nodes (now w)) v
        → HasEnded (current_cycle w) (now v)
    ended w v o = record { current = o.rests.current; ended = o.rests.ended }

    by : (w : World) → Start shape w → AreRounds shape.nodes w rs
        → marking_rounds shape.nodes (now w) ≤ length rs
        → HasEnded (current_cycle w) (now (after_rounds w rs))
    by w (goes_on m a) are enough =
        ended w _ (marking-rounds rs w (marking_rounds shape.nodes (now w))
        (nearer (marking_rounds shape.nodes (now w)) (omega arith) a) are enough)
    by w (has_ended o) are enough =
        ended w _ (marking-rounds rs w 0 (found o) are (omega arith))

cycle-done : (shape : Shaped) (w : World) (rs : List (List Step)) → Reached shape w
    → AreRounds shape.nodes w rs → cycle_rounds shape.nodes (now w) ≤ length rs
    → Done shape (current_cycle w) (after_rounds w rs)
cycle-done shape w rs r are enough =
    course-ends rs w (cycle_rounds shape.nodes (now w)) (by (start shape w r)) are enough
  where
    by : Start shape w
        → Course shape (current_cycle w) (sweeping_rounds shape.nodes (now w)) w
        (cycle_rounds shape.nodes (now w))
    by (goes_on m a) = marking (marking_rounds shape.nodes (now w)) a (omega arith)
    by (has_ended o) =
        sweeping o.rests
        (let left = o.left in
        let many = several r.limits in omega (arith, left, many))

cycle-swept : (shape : Shaped) (w : World) (rs : List (List Step)) → Reached shape w
    → AreRounds shape.nodes w rs → cycle_rounds shape.nodes (now w) ≤ length rs
    → IsSwept shape.nodes (current_cycle w) (now (after_rounds w rs))
cycle-swept shape w rs r are enough =
    let d = cycle-done shape w rs r are enough in
    swept-all (several r.limits) (stilled d.rests d.still) d.swept

pub rounds-end-cycle : OfSpaces RoundsEndCycle
rounds-end-cycle shape limits steps rs are enough =
    cycle-swept shape (run (new_world shape) steps) rs (reached-now shape limits steps) are enough

-- ---- garbage

-- Node 0 begins the next cycle after rounds. It stays in its cycle in these.
begin-passes : {shape : Shaped} (w : World) → Reached shape w
    → IsSwept shape.nodes (current_cycle w) (now w) → current_cycle w < GREATEST_CYCLE
    → AllPass (tests (now w 0).local event.Begin)
begin-passes w r swept below =
    let p : LocalState = (now w 0).local in
    let own : p.own ≡ 0 =
    (reached-whole r).inv.base.own 0 (let many = several r.limits in omega (arith, many)) in
    (eq-eqb p.own 0 own, (swept.reported, (lt-ltb p.phases.cycle GREATEST_CYCLE below, tt)))

pub rounds-let-begin : OfSpaces RoundsLetBegin
rounds-let-begin shape limits steps rs are enough below numbered =
    let w : World = run (new_world shape) steps in
    let r : Reached shape w = reached-now shape limits steps in
    let u : World = after_rounds w rs in
    let swept = cycle-swept shape w rs r are enough in
    acts-ok u 0 event.Begin (reached-more (steps_in rs) r) refl
    (begin-passes u (reached-more (steps_in rs) r)
    (subst (λ (k : ℕ). IsSwept shape.nodes k (now u)) (sym swept.current) swept)
    (let same = swept.current in omega (arith, same, below))) numbered

-- no round changes node 0's cycle
step-cycle : {shape : Shaped} (w : World) (s : Step) → Reached shape w → is_turns s ≡ true
    → outcome_of (take_step w s) ≢ Err LinkSpent
    → cycle_of (now (happens w s)) 0 ≡ cycle_of (now w) 0
step-cycle {shape} w s r turns numbered =
    ⊎_elim {C = cycle_of (now (happens w s)) 0 ≡ cycle_of (now w) 0}
    (λ (rest : (phases_of (now w) 0).ended ≡ cycle_of (now w) 0).
    ⊎_elim (λ same. ap (λ (z : Cut). cycle_of z 0) same.0) (λ takes_some. takes_some.current)
    (rest-step (rests-ended (record { reached = r; current = refl; ended = rest })) s turns
    (did r s turns numbered)))
    (λ (other : (phases_of (now w) 0).ended ≢ cycle_of (now w) 0).
    by (mark-step s r.limits (reached-whole r)
    (let e = (reached-whole r).inv.phased.ended 0 in omega (arith, e, other))
    (did r s turns numbered)))
    (cases_eq (phases_of (now w) 0).ended (cycle_of (now w) 0))
  where
    by : MarkStep shape (now w) (now (happens w s)) s
        → cycle_of (now (happens w s)) 0 ≡ cycle_of (now w) 0
    by (idles i k le) = k.cycle
    by (falls k fell falls_so) = k.cycle
    by (finds same ended slots work) = same

steps-cycle : {shape : Shaped} (w : World) (ss : List Step) → Reached shape w → Turned w ss
    → cycle_of (now (run w ss)) 0 ≡ cycle_of (now w) 0
steps-cycle w [] r t = refl
steps-cycle w (s ∷ ss) r t =
    steps-cycle (happens w s) ss (reached-more (s ∷ []) r) (turned-on t)
    ∙ step-cycle w s r t.turns.0 t.numbered.0

rounds-cycle : {shape : Shaped} (w : World) (rs : List (List Step)) → Reached shape w
    → AreRounds shape.nodes w rs
    → cycle_of (now (after_rounds w rs)) 0 ≡ cycle_of (now w) 0
rounds-cycle w [] r are = refl
rounds-cycle w (ss ∷ rs) r are =
    ap (λ (z : World). cycle_of (now z) 0) (sym (after-one w ss rs))
    ∙ rounds-cycle (run w ss) rs (reached-more ss r) are.1
    ∙ steps-cycle w ss r (turned are.0)

turns-leave : (ss : List Step) → AllByRecursion (λ s. is_turns s ≡ true) ss
    → AllByRecursion (λ s. is_resolving s ≡ false) ss
turns-leave [] all = tt
turns-leave (s ∷ ss) all = (by s all.0, turns-leave ss all.1)
  where
    by : (s : Step) → is_turns s ≡ true → is_resolving s ≡ false
    by (step.Act i event.Begin) is = refl
    by (step.Act i event.Scan) is = refl
    by (step.Act i event.Pass) is = refl
    by (step.Act i (event.Sweep count)) is = refl
    by (step.Act i (event.Next from)) is = refl
    by (step.Act i e) is = absurd cc
    by s is = refl

turns-stay : (i : ℕ) (ss : List Step) → AllByRecursion (λ s. is_turns s ≡ true) ss
    → StaysUp i ss
turns-stay i [] all = tt
turns-stay i (s ∷ ss) all = (λ is. both_ways _ (ap is_turns is) all.0, turns-stay i ss all.1)

-- what each step of the rounds is
rounds-all : (P : Step → Type 0) (n : ℕ) (w : World) (rs : List (List Step))
    → ((ss : List Step) → AllByRecursion (λ s. is_turns s ≡ true) ss → AllByRecursion P ss)
    → AreRounds n w rs → AllByRecursion P (steps_in rs)
rounds-all P n w [] turns are = tt
rounds-all P n w (ss ∷ rs) turns are =
    all-append P ss (steps_in rs) (turns ss are.0.turns) (rounds-all P n (run w ss) rs turns are.1)

pub rounds-free-garbage : OfSpaces RoundsFreeGarbage
rounds-free-garbage shape limits steps rs ts first begins second enough =
    let n : ℕ = shape.nodes in
    let w : World = run (new_world shape) steps in
    let r : Reached shape w = reached-now shape limits steps in
    let u : World = after_rounds w rs in
    let v : World = begun_after w rs in
    let there : Reached shape u = reached-more (steps_in rs) r in
    let next : current_cycle v ≡ current_cycle w + 1 =
    ap (λ (s : NodeState). s.local.phases.cycle)
    (ok-acts u 0 event.Begin there refl begins).becomes.changed
    ∙ (begun-costs (now u 0).local).2
    ∙ ap (λ (k : ℕ). k + 1) (rounds-cycle w rs r first) in
    let all : IsSwept n (current_cycle w + 1) (now (after_rounds v ts)) =
    subst (λ (k : ℕ). IsSwept n k (now (after_rounds v ts))) next
    (cycle-swept shape v ts (reached-more (step.Act 0 event.Begin ∷ []) there) second enough)
    in
    let later : List Step = steps_in rs ++ step.Act 0 event.Begin ∷ steps_in ts in
    let all_of : (P : Step → Type 0)
    → ((ss : List Step) → AllByRecursion (λ s. is_turns s ≡ true) ss → AllByRecursion P ss)
    → P (step.Act 0 event.Begin) → AllByRecursion P later =
    λ P turns begins.
    all-append P (steps_in rs) (step.Act 0 event.Begin ∷ steps_in ts)
    (rounds-all P n w rs turns first) (begins, rounds-all P n v ts turns second) in
    let same : run w later ≡ after_rounds v ts =
    run-append w (steps_in rs) (step.Act 0 event.Begin ∷ steps_in ts) in (
      all,
      λ r.
          subst (λ (z : World). IsGone w (run z (saves n)) r) same
          (gone-after limits steps later (record {
            before = omega arith;
            swept = subst (λ (z : World). IsSwept n (current_cycle w + 1) (now z)) (sym same) all;
            stays = λ i. all_of (λ s. s ≢ step.Restart i) (turns-stay i) (λ e. absurd cc);
            leaves = all_of (λ s. is_resolving s ≡ false) turns-leave refl;
          }) r),
    )
