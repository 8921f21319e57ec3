-- What a step within a cycle does while marking goes on. It takes some of the work away; or it does
-- nothing, or moves the token, and no more; or node 0 finds that marking has ended.
use Rattle.std.proofs.Common.{◌≡◌, ℕ, ◌+◌, ◌<◌, ◌≤◌, ◌==◌, true, false, not, cond, List, length, map, refl, sym, ap, ◌∙◌, subst, ⊎_elim, inl, inr, arith, eq-eqb}
use Rattle.std.specs.List.{AllByRecursion}
use Rattle.std.proofs.lemmas.Bool.{cond-true, cond-false, cases_Bool, cases_lt, not-true, both_ways, ne_eqb}
use Rattle.ids.specs.Limits.{Shaped, IsShape}
use Rattle.msg.specs.declared.body.Body.TheVariants as body
use Rattle.msg.specs.declared.body.Token.{Token}
use Rattle.msg.specs.declared.body.Message.{Message}
use Rattle.model.specs.declared.event.Event.TheVariants as event
use Rattle.model.specs.declared.step.Step.{Step}
use Rattle.model.specs.declared.step.Step.TheVariants as step
use Rattle.model.specs.State.{Heap, LocalState}
use Rattle.model.specs.Shading.{see_to}
use Rattle.model.specs.Collecting.{scan, scanned, whitened, without_token}
use Rattle.model.specs.Cuts.{Cut, taken, IsInFlight}
use Rattle.model.proofs.Leaving.{own-stands}
use Rattle.laws.proofs.Turns.{Turn, at_turn, flew}
use Rattle.laws.proofs.Lookups.{all-among}
use Rattle.laws.proofs.Invariant.{phases_of, cycle_of, Marking, Inv}
use Rattle.laws.proofs.Live.{Whole}
use Rattle.laws.specs.Strategy.{is_grey}
use Rattle.laws.specs.Bounds.{sum_to, work_left}
use Rattle.laws.proofs.progress.Flights.{sum-same}
use Rattle.laws.proofs.progress.Costs.{is_token, token-there}
use Rattle.laws.proofs.progress.Hearing.{Took, after_it, stamp-latest, took-joins, took-cycle, first-ended}
use Rattle.laws.proofs.progress.Falls.{nodes-turn, took-falls, scan-falls}
use Rattle.laws.proofs.progress.TokenMoves.{Idles, token-idles, Passes, PassMove, goes_on, concluded, pass-move}
use Rattle.laws.proofs.progress.Turning.{Excuse, is_act, Did, rests, takes, scans, passes, sweeps}
use Rattle.laws.proofs.progress.Widths.{taken-width, scanned-width}

-- ---- what no step adds to

abbrev pub unjoined_one : ℕ → LocalState → ℕ
unjoined_one cycle p = cond (p.phases.cycle == cycle) 0 1

-- how many nodes haven't joined the cycle
abbrev pub unjoined : ℕ → Cut → ℕ
unjoined n c = sum_to n (λ i. unjoined_one (cycle_of c 0) (c i).local)

abbrev pub width_of : LocalState → ℕ
width_of p = length p.heap.slots

abbrev pub slots_in : ℕ → Cut → ℕ
slots_in n c = sum_to n (λ i. width_of (c i).local)

pub record Keeps (n : ℕ) (c d : Cut) : Type 0 where
  pub cycle : cycle_of d 0 ≡ cycle_of c 0
  pub ended : (phases_of d 0).ended ≡ (phases_of c 0).ended
  pub unjoined : unjoined n d ≤ unjoined n c
  pub slots : slots_in n d ≡ slots_in n c

keeps-all : (n : ℕ) (c : Cut) → Keeps n c c
keeps-all n c =
    record { cycle = refl; ended = refl; unjoined = omega arith; slots = refl }

-- the nodes' cycles and the slots of the changed node stay
keeps-by : {n i : ℕ} {c d : Cut} {q : LocalState} {ms : List (ℕ × Message)} → i < n
    → Turn c d i q ms → q.phases.cycle ≡ cycle_of c i → q.phases.ended ≡ (phases_of c i).ended
    → width_of q ≡ width_of (c i).local → Keeps n c d
keeps-by {n = n} {c = c} {d = d} inside turn cycle ended width =
    let cycles : (j : ℕ) → cycle_of d j ≡ cycle_of c j =
    at_turn (λ j s. s.local.phases.cycle ≡ cycle_of c j) turn cycle (λ j _. refl) in
    let same = sum-same n (λ j. unjoined_one (cycle_of c 0) (c j).local)
    (λ j. unjoined_one (cycle_of d 0) (d j).local)
    (λ j _. ap (λ (z : ℕ). cond (z == cycle_of d 0) 0 1) (cycles j)
    ∙ ap (λ (z : ℕ). cond (cycle_of c j == z) 0 1) (cycles 0)) in
    record {
      cycle = cycles 0;
      ended = at_turn (λ j s. s.local.phases.ended ≡ (phases_of c j).ended) turn ended
          (λ j _. refl) 0;
      unjoined = omega (arith, same);
      slots = (let s = nodes-turn n width_of inside turn in omega (arith, s, width));
    }

-- ---- idle steps

-- Nothing changes; or a token comes to a node that has joined, or is sent on.
pub data IdleStep (shape : Shaped) (c d : Cut) (s : Step) : Type 0 where
  nothing : d ≡ c → Excuse c s → IdleStep shape c d s
  token_in : (from to : ℕ) (x : Message) (t : Token) → Took shape c d from to x
      → x.body ≡ body.Token t → x.stamp ≤ cycle_of c to → is_act s ≡ false → IdleStep shape c d s
  token_on : (i : ℕ) (q : LocalState) (ms : List (ℕ × Message)) → Passes shape c d i
      → Idles shape.nodes c d i q ms → AllByRecursion (λ m. is_token m.1.body ≡ true) ms
      → q.got ≡ (c i).local.got → s ≡ step.Act i event.Pass → IdleStep shape c d s

-- nothing is grey, and nothing but tokens is in flight
pub record Quiet (n : ℕ) (c : Cut) : Type 0 where
  pub calm : (i : ℕ) → i < n → is_grey c i ≡ false
  pub tokens : (from to place : ℕ) (x : Message) → IsInFlight c from to place x
      → is_token x.body ≡ true

pub idle-grey : {shape : Shaped} {c d : Cut} {s : Step} → IdleStep shape c d s → (j : ℕ)
    → is_grey d j ≡ is_grey c j
idle-grey (nothing same excuse) j = ap (λ (z : Cut). is_grey z j) same
idle-grey (token_in from to x t took is here other) j =
    ap (λ (z : List ℕ). not (length z == 0)) ((token-idles took t is here).grey j)
idle-grey (token_on i q ms pass idle tokens got step_is) j =
    ap (λ (z : List ℕ). not (length z == 0)) (idle.grey j)

idle-tokens : {shape : Shaped} {c d : Cut} {s : Step} → IdleStep shape c d s
    → ((from to place : ℕ) (x : Message) → IsInFlight c from to place x → is_token x.body ≡ true)
    → (from to place : ℕ) (x : Message) → IsInFlight d from to place x → is_token x.body ≡ true
idle-tokens (nothing same excuse) all from to place x flight =
    all from to place x (subst (λ (z : Cut). IsInFlight z from to place x) same flight)
idle-tokens (token_in f g y t took is here other) all from to place x flight =
    ⊎_elim {C = is_token x.body ≡ true} (λ before. all from to place x before)
    (λ new. absurd new.1) (flew (token-idles took t is here).turn from to place x flight)
idle-tokens (token_on i q ms pass idle tokens got step_is) all from to place x flight =
    ⊎_elim {C = is_token x.body ≡ true} (λ before. all from to place x before)
    (λ new. all-among (λ m. is_token m.1.body ≡ true) ms tokens (to, x) new.1)
    (flew idle.turn from to place x flight)

pub idle-quiet : {shape : Shaped} {c d : Cut} {s : Step} → IdleStep shape c d s
    → Quiet shape.nodes c → Quiet shape.nodes d
idle-quiet idle quiet = record {
  calm = λ i inside. idle-grey idle i ∙ quiet.calm i inside;
  tokens = idle-tokens idle quiet.tokens;
}

-- ---- every step

pub data MarkStep (shape : Shaped) (c d : Cut) (s : Step) : Type 0 where
  idles : IdleStep shape c d s → Keeps shape.nodes c d
      → work_left shape.nodes d ≤ work_left shape.nodes c → MarkStep shape c d s
  falls : Keeps shape.nodes c d → work_left shape.nodes d + 1 ≤ work_left shape.nodes c
      → (Quiet shape.nodes c → unjoined shape.nodes d + 1 ≤ unjoined shape.nodes c)
      → MarkStep shape c d s
  finds : cycle_of d 0 ≡ cycle_of c 0 → (phases_of d 0).ended ≡ cycle_of c 0
      → slots_in shape.nodes d ≡ slots_in shape.nodes c
      → work_left shape.nodes d ≤ work_left shape.nodes c + shape.nodes → MarkStep shape c d s

scan-phases : (p : LocalState) → ((scanned p).local.phases.cycle ≡ p.phases.cycle)
    × ((scanned p).local.phases.ended ≡ p.phases.ended)
unfolding scanned scan see_to
scan-phases p = (refl, refl)

-- while marking goes on, no node has anything to sweep
none-sweeps : {shape : Shaped} {c : Cut} → Inv shape c → Marking (phases_of c 0) → (i : ℕ)
    → i < shape.nodes → (phases_of c i).ended ≤ (phases_of c i).swept
none-sweeps {c = c} inv marking i inside =
    let a = inv.phased.cycle i in
    let b = inv.phased.first i in
    ⊎_elim {C = (phases_of c i).ended ≤ (phases_of c i).swept}
    (λ there. omega (arith, there, a, b, marking)) (λ behind. omega (arith, behind.2, b, marking))
    (inv.phased.apart i inside)

module _ {shape : Shaped} {c d : Cut} (s : Step) (limits : IsShape shape) (whole : Whole shape c)
    (marking : Marking (phases_of c 0)) where
  -- ---- a message

  taken-keeps : {from to : ℕ} {x : Message} (took : Took shape c d from to x)
      → (Keeps shape.nodes c d)
      × ((cycle_of c to < x.stamp) → unjoined shape.nodes d + 1 ≤ unjoined shape.nodes c)
  taken-keeps {from} {to} {x} took =
      let first : ℕ = cycle_of c 0 in
      let q : LocalState = after_it took in
      let same : unjoined shape.nodes d ≡ sum_to shape.nodes (λ j. unjoined_one first (d j).local) =
      ap (λ (z : ℕ). sum_to shape.nodes (λ j. unjoined_one z (d j).local)) (took-cycle took) in
      let nodes = nodes-turn shape.nodes (unjoined_one first) took.inside took.turn in
      let width = nodes-turn shape.nodes width_of took.inside took.turn in
      let wide = taken-width (c to).local from (taken c from to + 1) x.stamp
      x.body in
      let latest = stamp-latest took in
      ⊎_elim {C = (Keeps shape.nodes c d)
      × ((cycle_of c to < x.stamp) → unjoined shape.nodes d + 1 ≤ unjoined shape.nodes c)}
      (λ ahead.
      let least = whole.inv.phased.apart to took.inside in
      let stamp : x.stamp ≡ first =
      ⊎_elim {C = x.stamp ≡ first} (λ there. absurd (omega (arith, there, ahead.0, latest)))
      (λ behind. omega (arith, behind.1, ahead.0, latest)) least in
      let was : unjoined_one first (c to).local ≡ 1 =
      cond-false (cycle_of c to == first) 0 1
      (ne_eqb _ _ (λ e. let a = ahead.0 in omega (arith, e, a, stamp))) in
      let is_now : unjoined_one first q ≡ 0 =
      cond-true (q.phases.cycle == first) 0 1 (eq-eqb _ _ (ahead.1 ∙ stamp)) in (
        record {
          cycle = took-cycle took;
          ended = first-ended took;
          unjoined = omega (arith, same, nodes, was, is_now);
          slots = omega (arith, width, wide);
        },
        λ _. omega (arith, same, nodes, was, is_now),
      ))
      (λ here.
      let stays : unjoined_one first q ≡ unjoined_one first (c to).local =
      ap (λ (z : ℕ). cond (z == first) 0 1) here.1 in (
        record {
          cycle = took-cycle took;
          ended = first-ended took;
          unjoined = omega (arith, same, nodes, stays);
          slots = omega (arith, width, wide);
        },
        λ (ahead : cycle_of c to < x.stamp). absurd (let h = here.0 in omega (arith, ahead, h)),
      ))
      (took-joins took)

  take-step : {from to : ℕ} {x : Message} → Took shape c d from to x → is_act s ≡ false
      → MarkStep shape c d s
  take-step {from} {to} {x} took act =
      let keeps = taken-keeps took in
      ⊎_elim {C = MarkStep shape c d s}
      (λ (ahead : cycle_of c to < x.stamp).
      let work = (took-falls took (inr ahead)).work in
      falls keeps.0 (omega (arith, work)) (λ _. keeps.1 ahead))
      (λ (here : x.stamp ≤ cycle_of c to). ⊎_elim {C = MarkStep shape c d s}
      (λ token.
      let t = token-there x.body token in
      let idle = token-idles took t.0 t.1 here in
      let work = idle.work in
      idles (token_in from to x t.0 took t.1 here act) keeps.0 (omega (arith, work)))
      (λ other.
      let work = (took-falls took (inl other)).work in
      falls keeps.0 (omega (arith, work))
      (λ quiet.
      absurd (both_ways _ other
      (quiet.tokens from to (taken c from to) x took.flight))))
      (cases_Bool (is_token x.body)))
      (cases_lt (cycle_of c to) x.stamp)

  -- ---- an event

  scan-step : (i : ℕ) → i < shape.nodes → is_grey c i ≡ true
      → Turn c d i (scanned (c i).local).local
      (scanned (c i).local).sends → MarkStep shape c d s
  scan-step i inside grey turn =
      let stands = own-stands (c i).local (map length (c i).sent) event.Scan refl in
      let work = (scan-falls whole.inv inside (not-true _ grey) turn stands.got).work in
      falls (keeps-by inside turn (scan-phases (c i).local).0 (scan-phases (c i).local).1
      (scanned-width (c i).local)) (omega (arith, work))
      (λ quiet. absurd (both_ways _ (quiet.calm i inside) grey))

  pass-step : (i : ℕ) → Passes shape c d i → s ≡ step.Act i event.Pass → MarkStep shape c d s
  pass-step i h step_is = by (pass-move h)
    where
      by : PassMove shape.nodes c d i → MarkStep shape c d s
      by (goes_on t u why idle) =
          let work = idle.work in
          idles
          (token_on i (record (c i).local { ring = whitened (without_token (c i).local.ring) }) _ h
          idle (refl, tt) refl step_is)
          (keeps-by h.inside idle.turn refl refl refl) (omega (arith, work))
      by (concluded ms idle few load ended) =
          let work = idle.work in
          let width = nodes-turn shape.nodes width_of h.inside idle.turn in
          let same = ap (λ (z : Heap). length z.slots) idle.heap in
          finds (idle.cycle 0) ended (omega (arith, width, same)) (omega (arith, work, load))

  pub mark-step : Did shape c d s → MarkStep shape c d s
  mark-step (rests same excuse) =
      subst (λ (z : Cut). MarkStep shape c z s) (sym same)
      (idles (nothing refl excuse) (keeps-all shape.nodes c) (omega arith))
  mark-step (takes from to x took act) = take-step took act
  mark-step (scans i inside grey turn) = scan-step i inside grey turn
  mark-step (passes i inside has calm step_is turn) =
      pass-step i
      (record { limits = limits; whole = whole; inside = inside; has = has; turn = turn })
      step_is
  mark-step (sweeps i count inside ready is turn) =
      absurd (let none = none-sweeps whole.inv marking i inside in omega (arith, ready, none))
