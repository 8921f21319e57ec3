use Rattle.std.proofs.Common.{ℕ, ◌<◌, ◌≢◌}
use Rattle.restore_choice.specs.Choices.{FitsBeside, chosen_of}
use Rattle.restore_choice.proofs.is_ahead.Given as goal

abbrev pub invariant-loop-other : goal.invariant-loop-other
invariant-loop-other l =
    (j : ℕ) → j < l.other → l.node ≢ j
    → FitsBeside l.node j (chosen_of l.histories l.choice l.node)
    (chosen_of l.histories l.choice j)
