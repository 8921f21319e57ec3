use Rattle.std.proofs.Common.{length}
use Rattle.model.specs.World.{World}
use Rattle.world.specs.Spaces.{ShowsSpace}
use Rattle.world.proofs.Playing.{Played}
use Rattle.world.proofs.sim.Sim.play_until.Given as goal

abbrev pub invariant-loop-moves : goal.invariant-loop-moves
invariant-loop-moves l =
    (w : World) → ShowsSpace l.fn.self w
    → Played (length l.fn.self.sites) l.cycle l.moves w l.self
