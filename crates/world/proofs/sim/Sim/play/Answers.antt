use Rattle.std.proofs.Common.{subst, ap}
use Rattle.laws.specs.Strategy.{now, steps_of}
use Rattle.world.specs.Collected.{TakesAll}
use Rattle.world.proofs.Moves.{steps-shown}
use Rattle.world.proofs.sim.Sim.play.Goals as goal

pub take_all-requires-in-Do : goal.take_all-requires-in-Do
take_all-requires-in-Do c = (c.in-Do.ensures.sound, tt)

pub returns-in-Bring-clause-takes : goal.returns-in-Bring-clause-takes
returns-in-Bring-clause-takes c = λ w shown.
    subst (TakesAll c.take_all.result w c.take_all.new.self)
    (steps-shown shown.world c.in-Bring.from c.in-Bring.to c.in-Bring.number
    (c.in-Bring.ensures.is w shown) c.in-Bring.ensures.sound)
    (c.take_all.ensures.takes w shown)

pub returns-in-Do-clause-takes : goal.returns-in-Do-clause-takes
returns-in-Do-clause-takes c = λ w shown.
    subst (TakesAll c.take_all-in-Do.result w c.take_all-in-Do.new.self)
    (ap (steps_of (now w)) (c.in-Do.ensures.is w shown))
    (c.take_all-in-Do.ensures.takes w shown)
