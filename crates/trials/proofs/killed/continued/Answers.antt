use Rattle.trials.proofs.Chained.{by-begin}
use Rattle.trials.proofs.killed.continued.Goals as goal

pub returns-in-Ok : goal.returns-in-Ok
returns-in-Ok g c =
    by-begin c.in-Ok.ensures.fresh c.in-Ok.ensures.closed c.in-Ok.ensures.killed
