-- What holds of the phases of every node, and how they change.
use Rattle.std.specs.Prelude.{◌≡◌, ℕ, ◌+◌, ◌<◌, ◌≤◌, Bool, nat_lt, List, [], ◌∷◌, slice_set}
use Rattle.std.specs.List.{All}
use Rattle.ids.specs.declared.limits.TheConstants.{GREATEST_CYCLE}
use Rattle.ids.specs.declared.refusal.Refusal.{Refusal}
use Rattle.ids.specs.declared.refusal.Refusal.TheVariants.{CycleRunning, CyclesSpent}
use Rattle.model.specs.State.{Phases}
use Rattle.model.specs.Collecting.{is_swept_everywhere}

abbrev pub phases_of : ℕ → ℕ → ℕ → ℕ → List ℕ → Phases
phases_of cycle ended swept cursor reports =
    record { cycle = cycle; ended = ended; swept = swept; cursor = cursor; reports = reports }

pub record IsPhases (p : Phases) : Type 0 where
  -- a cycle is joined, then its marking ends, and then it is swept, before the next one is joined
  pub swept : p.swept ≤ p.ended
  pub ended : p.ended ≤ p.cycle
  pub cycle : p.cycle ≤ p.swept + 1
  pub within : p.cycle ≤ GREATEST_CYCLE
  -- the cursor is 0 while there is nothing to be swept
  pub cursor : p.ended ≤ p.swept → p.cursor ≡ 0
  -- no node has reported a sweep of a cycle that this node doesn't know
  pub reports : All (λ report. report ≤ p.cycle) p.reports

-- ---- Begin

-- the tests of Begin that the phases decide, in their order
abbrev pub cycle_tests : Phases → List (Bool × Refusal)
cycle_tests p =
    (is_swept_everywhere p, CycleRunning) ∷ (nat_lt p.cycle GREATEST_CYCLE, CyclesSpent) ∷ []

-- the node has swept its cycle, and a number is left for the next one
pub record MayBegin (p : Phases) : Type 0 where
  pub swept : p.swept ≡ p.cycle
  pub left : p.cycle < GREATEST_CYCLE

-- ---- how they change

-- a cycle was joined
abbrev pub in_cycle : ℕ → Phases → Phases
in_cycle cycle p = record p { cycle = cycle; cursor = 0 }

-- marking has ended
abbrev pub with_ended : Phases → Phases
with_ended p = record p { ended = p.cycle }

-- a node has swept a cycle
abbrev pub with_report : ℕ → ℕ → Phases → Phases
with_report from cycle p = record p { reports = slice_set p.reports from cycle }

-- this many more slots are swept
abbrev pub advanced : ℕ → Phases → Phases
advanced count p = record p { cursor = p.cursor + count }

-- all slots are swept
abbrev pub all_swept : Phases → Phases
all_swept p = record p { swept = p.cycle; cursor = 0 }
