use Rattle.std.proofs.Common.{◌≡◌, map}
use Rattle.std.specs.List.{range_with_len}
use Rattle.world.specs.Sites.{new_keeping}
use Rattle.world.proofs.sim.Sim.new.Given as goal

abbrev pub invariant-loop-number : goal.invariant-loop-number
invariant-loop-number l = l.sites.items ≡ map (new_keeping l.shape) (range_with_len 0 l.number)
