use Rattle.std.proofs.Common.{◌<◌, ℕ}
use Rattle.wire.specs.OneAge.{Fit}
use Rattle.wire.proofs.fitting.first_apart.Given as goal

abbrev pub invariant-loop-from : goal.invariant-loop-from
invariant-loop-from l = (i : ℕ) → i < l.from → (j : ℕ) → Fit l.nodes i j
