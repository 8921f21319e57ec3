-- Collection never gets stuck, in whatever order the collector's steps are done ("Progress" in
-- docs/PROOF.md). `Progress` has one order that leads to the end. Here every fair one does: in each
-- round all nodes have a turn, and messages come in on every link.
use Rattle.std.specs.Prelude.{◌≡◌, ◌≢◌, ℕ, ◌+◌, ◌*◌, ◌<◌, ◌≤◌, Bool, true, false, nat_lt, List, [], ◌∷◌, ◌++◌, length, Result, Err, IsOk}
use Rattle.std.specs.List.{AllByRecursion}
use Rattle.ids.specs.declared.limits.TheConstants.{GREATEST_CYCLE}
use Rattle.ids.specs.declared.names.Ref.{Ref}
use Rattle.ids.specs.declared.refusal.Refusal.{Refusal}
use Rattle.ids.specs.declared.refusal.Refusal.TheVariants.{LinkSpent}
use Rattle.model.specs.declared.event.Event.TheVariants as event
use Rattle.model.specs.declared.step.Step.{Step}
use Rattle.model.specs.declared.step.Step.TheVariants as step
use Rattle.model.specs.declared.step.Outcome.{Outcome}
use Rattle.model.specs.State.{sent_to}
use Rattle.model.specs.World.{World, run, happens, take_step, outcome_of, outcomes}
use Rattle.model.specs.Cuts.{Cut, Among, taken}
use Rattle.laws.specs.Strategy.{now, is_collectors}
use Rattle.laws.specs.Bounds.{sum_to, work_left}
use Rattle.laws.specs.Progress.{current_cycle, HasEnded, IsSwept, IsGone, saves}

-- ---- rounds

-- A step of the collector within a cycle, a Next, a save, a delivery or an acknowledgement. A sweep
-- looks at some slots.
abbrev pub is_turns : Step → Bool
is_turns (step.Act i event.Begin) = false
is_turns (step.Act i (event.Next from)) = true
is_turns (step.Act i (event.Sweep count)) = nat_lt 0 count
is_turns s = is_collectors s

-- A node has its turn: it tries to scan, to pass the token, and to sweep some slots. If there is
-- nothing to do, that is refused and changes nothing.
pub record HasTurn (i : ℕ) (ss : List Step) : Type 0 where
  pub scan : Among (step.Act i event.Scan) ss
  pub pass : Among (step.Act i event.Pass) ss
  pub count : ℕ
  pub sweep : Among (step.Act i (event.Sweep count)) ss

-- Of the messages that are in flight on a link at first, two are received, or all if there are
-- fewer.
abbrev pub ComesIn : ℕ → Cut → Cut → Type 0
ComesIn n c d =
    (from to k : ℕ) → from < n → to < n → k < 2
    → taken c from to + k < length (sent_to (c from) to)
    → taken c from to + k < taken d from to

-- A round: any steps within a cycle, in any order, among which are each node's turn and what brings
-- messages in. No step is refused because a link has run out of numbers. (Here and below, n is the
-- number of nodes.)
pub record IsRound (n : ℕ) (w : World) (ss : List Step) : Type 0 where
  pub turns : AllByRecursion (λ s. is_turns s ≡ true) ss
  pub numbered : AllByRecursion (λ o. o ≢ Err LinkSpent) (outcomes w ss)
  pub each : (i : ℕ) → i < n → HasTurn i ss
  pub comes_in : ComesIn n (now w) (now (run w ss))

-- rounds one after another, and all their steps
abbrev pub AreRounds : ℕ → World → List (List Step) → Type 0
AreRounds n w [] = Unit {0}
AreRounds n w (ss ∷ rs) = IsRound n w ss × AreRounds n (run w ss) rs

abbrev pub steps_in : List (List Step) → List Step
steps_in [] = []
steps_in (ss ∷ rs) = ss ++ steps_in rs

abbrev pub after_rounds : World → List (List Step) → World
after_rounds w rs = run w (steps_in rs)

-- ---- how many are needed

-- Each round takes some of the work that is left, or moves the token on. Three times it may go
-- round, by n passes and n receipts; and again after a node has joined.
abbrev pub marking_rounds : ℕ → Cut → ℕ
marking_rounds n c = work_left n c + 6 * n * n

-- After the end of marking: what is in flight then, and for each node 4, as for `cycle_moves`, and
-- its slots.
abbrev pub sweeping_rounds : ℕ → Cut → ℕ
sweeping_rounds n c =
    work_left n c + 4 * n + sum_to n (λ i. length (c i).local.heap.slots)

abbrev pub cycle_rounds : ℕ → Cut → ℕ
cycle_rounds n c = marking_rounds n c + sweeping_rounds n c

-- ---- statements

-- After this many rounds the cycle's marking has ended.
abbrev pub RoundsEndMarking : ℕ → World → Type 0
RoundsEndMarking n w =
    (rs : List (List Step)) → AreRounds n w rs → marking_rounds n (now w) ≤ length rs
    → HasEnded (current_cycle w) (now (after_rounds w rs))

-- After this many, each node has swept the cycle.
abbrev pub RoundsEndCycle : ℕ → World → Type 0
RoundsEndCycle n w =
    (rs : List (List Step)) → AreRounds n w rs → cycle_rounds n (now w) ≤ length rs
    → IsSwept n (current_cycle w) (now (after_rounds w rs))

-- the outcome when node 0 begins the next cycle after rounds, and the space then
abbrev pub begins_after : World → List (List Step) → Result Outcome Refusal
begins_after w rs = outcome_of (take_step (after_rounds w rs) (step.Act 0 event.Begin))

abbrev pub begun_after : World → List (List Step) → World
begun_after w rs = happens (after_rounds w rs) (step.Act 0 event.Begin)

-- Then node 0 may begin the next cycle, unless cycles or links have run out of numbers.
abbrev pub RoundsLetBegin : ℕ → World → Type 0
RoundsLetBegin n w =
    (rs : List (List Step)) → AreRounds n w rs → cycle_rounds n (now w) ≤ length rs
    → current_cycle w < GREATEST_CYCLE → begins_after w rs ≢ Err LinkSpent
    → IsOk (begins_after w rs)

-- If it does, and after enough rounds for that cycle, each node has swept it too. Once each is
-- saved then, none of them has an object that was garbage at the start, saved or not, in any choice
-- of current and saved states.
abbrev pub RoundsFreeGarbage : ℕ → World → Type 0
RoundsFreeGarbage n w =
    (rs ts : List (List Step)) → AreRounds n w rs → IsOk (begins_after w rs)
    → AreRounds n (begun_after w rs) ts → cycle_rounds n (now (begun_after w rs)) ≤ length ts
    → IsSwept n (current_cycle w + 1) (now (after_rounds (begun_after w rs) ts))
    × ((r : Ref) → IsGone w (run (after_rounds (begun_after w rs) ts) (saves n)) r)
