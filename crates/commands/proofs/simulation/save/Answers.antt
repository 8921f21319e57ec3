use Rattle.std.proofs.Common.{refl}
use Rattle.model.specs.declared.step.Outcome.TheVariants as outcome
use Rattle.commands.proofs.Replies.{step_refused, step_taken}
use Rattle.commands.proofs.simulation.save.Goals as goal

pub returns-in-Ok : goal.returns-in-Ok
returns-in-Ok c =
    step_taken outcome.Done (rw c.in-Ok.is at c.save.ensures.stepped) refl c.put_outcome.ensures

pub returns-in-Err : goal.returns-in-Err
returns-in-Err c = step_refused (rw c.in-Err.is at c.save.ensures.stepped)
