use Rattle.std.proofs.Common.{refl}
use Rattle.world.specs.Spaces.{delivered}
use Rattle.commands.proofs.Replies.{step_refused, step_taken}
use Rattle.commands.proofs.simulation.deliver.Goals as goal

pub returns-in-Ok : goal.returns-in-Ok
returns-in-Ok c = step_taken (delivered c.in-Ok.answer) (rw c.in-Ok.is at c.deliver.ensures) refl
    c.put_delivered.ensures

pub returns-in-Err : goal.returns-in-Err
returns-in-Err c = step_refused (rw c.in-Err.is at c.deliver.ensures)
