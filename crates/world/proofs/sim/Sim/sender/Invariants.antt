use Rattle.std.proofs.Common.{◌≡◌, ◌<◌, ℕ, false}
use Rattle.world.specs.Moves.{has_awaiting}
use Rattle.world.proofs.sim.Sim.sender.Given as goal

abbrev pub invariant-loop-from : goal.invariant-loop-from
invariant-loop-from l = (j : ℕ) → j < l.from → has_awaiting l.self.sites j ≡ false
