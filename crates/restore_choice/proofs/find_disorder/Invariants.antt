use Rattle.std.proofs.Common.{ℕ, ◌<◌}
use Rattle.restore_choice.specs.Choices.{AreInOrder, states_of}
use Rattle.restore_choice.proofs.find_disorder.Given as goal

abbrev pub invariant-loop-node : goal.invariant-loop-node
invariant-loop-node l = (i : ℕ) → i < l.node → AreInOrder (states_of l.histories i)
