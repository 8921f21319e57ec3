use Rattle.std.proofs.Common.{◌<◌, ℕ}
use Rattle.wire.specs.OneAge.{Fit}
use Rattle.wire.proofs.fitting.apart_from.Given as goal

abbrev pub invariant-loop-to : goal.invariant-loop-to
invariant-loop-to l = (j : ℕ) → j < l.to → Fit l.nodes l.from j
