use Rattle.supervisor.proofs.Backs.{no-error}
use Rattle.supervisor.proofs.space.Opened.open.Goals as goal

pub returns-clause-disks : goal.returns-clause-disks
returns-clause-disks g c = λ apart. no-error _ _ _ (c.in_ok-wire.ensures.disks apart)
