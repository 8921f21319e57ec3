-- How many objects the sweeps of each cycle of a script freed.
use Rattle.std.specs.Prelude.{◌≡◌, ◌≢◌, ℕ, ◌+◌, ◌-◌, ◌==◌, cond, List, [], ◌++◌, length, replicate, slice_index, slice_set, Option, Some, None, Vec}
use Rattle.std.specs.declared.alloc.Global.{Global}
use Rattle.model.specs.World.{World}
use Rattle.model.specs.declared.event.Event.TheVariants as event
use Rattle.model.specs.declared.event.Answer.TheVariants as answer
use Rattle.model.specs.declared.step.Outcome.{Outcome}
use Rattle.model.specs.declared.step.Outcome.TheVariants as outcome
use Rattle.model.specs.declared.step.Step.{Step}
use Rattle.model.specs.declared.step.Step.TheVariants as step
use Rattle.model.specs.declared.summary.Summary.{Summary}
use Rattle.world.specs.Shows.{summary_at}

-- a sum for each cycle at least up to this one
abbrev pub padded : ℕ → List ℕ → List ℕ
padded cycle sums = sums ++ replicate (cycle - length sums) 0

-- the sums, from cycle 1 on, after a sweep of this cycle that freed this many (there is no cycle 0)
abbrev pub freed_more : ℕ → ℕ → List ℕ → List ℕ
freed_more cycle count sums =
    cond (cycle == 0) sums
    (slice_set (padded cycle sums) (cycle - 1)
    (slice_index (padded cycle sums) (cycle - 1) + count))

-- the same for a sweep of this node, in the cycle that it has joined
abbrev pub freed_by : Option Summary → ℕ → List ℕ → List ℕ
freed_by None count sums = sums
freed_by (Some s) count sums = freed_more s.cycle count sums

-- the node that a step asks to sweep
abbrev pub sweeper : Step → Option ℕ
sweeper (step.Act i (event.Sweep n)) = Some i
sweeper s = None

-- how many objects were freed, if an outcome says so
abbrev pub freed_in : Outcome → Option ℕ
freed_in (outcome.Answer (answer.Freed count done)) = Some count
freed_in o = None

abbrev pub freed_with : World → Option ℕ → Option ℕ → List ℕ → List ℕ
freed_with w (Some i) (Some count) sums = freed_by (summary_at w i) count sums
freed_with w i count sums = sums

-- The sums after a step that led to this space. A sweep doesn't change its node's cycle.
abbrev pub freed_after : World → Step → Outcome → List ℕ → List ℕ
freed_after w s o sums = freed_with w (sweeper s) (freed_in o) sums

-- The sums that a script keeps: all of them, or, after some sweep, none because an allocation
-- failed or a sum grew too large.
abbrev pub KeepsSums : Option (Vec ℕ Global) → List ℕ → Type 0
KeepsSums (Some v) sums = v.items ≡ sums
KeepsSums None sums = sums ≢ []
