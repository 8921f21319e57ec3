use Rattle.markring.proofs.Lines.{verdict-ends}
use Rattle.markring.proofs.running.cycle.Goals as goal

pub returns-in-Ok-Begun-clause-told : goal.returns-in-Ok-Begun-clause-told
returns-in-Ok-Begun-clause-told g c =
    verdict-ends c.in-Ok-Begun.cycle c.await_end.result c.await_end.ensures.told
