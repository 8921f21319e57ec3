use Rattle.std.proofs.Common.{refl}
use Rattle.std.proofs.lemmas.Bool.{false≢true}
use Rattle.disk.proofs.Causes.{counted_cause, no_cause}
use Rattle.disk.proofs.memory.MemoryDiskDisk.read.Goals as goal

pub returns-then-falters-clause-cause : goal.returns-then-falters-clause-cause
returns-then-falters-clause-cause c =
    counted_cause refl c.fault.ensures.counted tt refl

pub returns-clause-cause : goal.returns-clause-cause
returns-clause-cause c =
    no_cause refl false≢true
