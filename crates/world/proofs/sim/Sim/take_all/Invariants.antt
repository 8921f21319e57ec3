use Rattle.std.proofs.Common.{take}
use Rattle.model.specs.World.{World, run}
use Rattle.world.specs.Spaces.{ShowsSpace}
use Rattle.world.proofs.sim.Sim.take_all.Given as goal

abbrev pub invariant-loop-step : goal.invariant-loop-step
invariant-loop-step l =
    (w : World) → ShowsSpace l.fn.self w → ShowsSpace l.self (run w (take l.step-index l.steps))
