use Rattle.std.proofs.Common.{ℕ, ◌<◌, ◌≢◌, length}
use Rattle.restore_choice.specs.Choices.{FitsBeside, chosen_of}
use Rattle.restore_choice.proofs.find_ahead.Given as goal

abbrev pub invariant-loop-node : goal.invariant-loop-node
invariant-loop-node l =
    (i j : ℕ) → i < l.node → j < length l.histories → i ≢ j
    → FitsBeside i j (chosen_of l.histories l.choice i) (chosen_of l.histories l.choice j)
