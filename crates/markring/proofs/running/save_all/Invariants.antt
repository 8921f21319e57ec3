use Rattle.std.proofs.Common.{◌≤◌}
use Rattle.markring.proofs.running.save_all.Given as goal

abbrev pub invariant-loop-node : goal.invariant-loop-node
invariant-loop-node g l = l.status ≤ 2
