use Rattle.std.proofs.Common.{refl}
use Rattle.commands.proofs.Replies.{step_refused, step_taken}
use Rattle.commands.proofs.simulation.restart.Goals as goal

pub returns-in-Ok : goal.returns-in-Ok
returns-in-Ok c =
    step_taken c.in-Ok.outcome (rw c.in-Ok.is at c.step.ensures) refl c.put_outcome.ensures

pub returns : goal.returns
returns c = step_refused (rw c.in-Err.is at c.step.ensures)
