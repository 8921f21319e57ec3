use Rattle.std.proofs.Common.{refl}
use Rattle.world.specs.Spaces.{handed}
use Rattle.commands.proofs.Replies.{step_refused, step_taken}
use Rattle.commands.proofs.simulation.hand.Goals as goal

pub returns-in-Ok : goal.returns-in-Ok
returns-in-Ok c = step_taken (handed c.in-Ok.number) (rw c.in-Ok.is at c.hand.ensures) refl
    c.put_handed.ensures

pub returns-in-Err : goal.returns-in-Err
returns-in-Err c = step_refused (rw c.in-Err.is at c.hand.ensures)
