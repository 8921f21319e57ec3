use Rattle.std.proofs.Common.{◌≡◌, ◌<◌, ℕ, false}
use Rattle.world.specs.Moves.{has_sign, local_at}
use Rattle.world.proofs.sim.Sim.first.Given as goal

abbrev pub invariant-loop-node : goal.invariant-loop-node
invariant-loop-node l =
    (j : ℕ) → j < l.node → has_sign l.sign (local_at l.self.sites j) ≡ false
