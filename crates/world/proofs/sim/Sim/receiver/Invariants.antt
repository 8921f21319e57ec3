use Rattle.std.proofs.Common.{◌≡◌, ◌<◌, ℕ, false}
use Rattle.world.specs.Moves.{awaits}
use Rattle.world.proofs.sim.Sim.receiver.Given as goal

abbrev pub invariant-loop-to : goal.invariant-loop-to
invariant-loop-to l = (j : ℕ) → j < l.to → awaits l.self.sites l.from j ≡ false
