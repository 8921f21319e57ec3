use Rattle.std.proofs.Common.{arith}
use Rattle.std.proofs.lemmas.Bool.Decides.{nat_tests}
use Rattle.disk.proofs.Causes.{err_cause}
use Rattle.disk_shelf.proofs.Quiet.{unmoved}
use Rattle.disk_shelf.proofs.Records.{whole_read}
use Rattle.disk_shelf.proofs.save.read_whole.Goals as goal

pub returns-in_err-found-clause-quiet : goal.returns-in_err-found-clause-quiet
returns-in_err-found-clause-quiet g c =
    unmoved (λ x left. g.met.D.Disk.only_now c.args.disk.now x left)
    c.read.ensures.seen c.read.ensures.crash c.read.ensures.time

pub returns-clause-quiet : goal.returns-clause-quiet
returns-clause-quiet g c =
    unmoved (λ x left. g.met.D.Disk.only_now c.args.disk.now x left)
    c.read.ensures.seen c.read.ensures.crash c.read.ensures.time

pub returns-clause-whole : goal.returns-clause-whole
returns-clause-whole g c =
    whole_read _ c.in_ok-found.ensures.bytes (λ is. grind (arith, nat_tests))
    (λ is. grind (arith, nat_tests))

pub returns-in_err-found-clause-cause : goal.returns-in_err-found-clause-cause
returns-in_err-found-clause-cause g c =
    err_cause c.in_err-found.ensures.cause c.from_residual.ensures.0

pub returns-clause-cause : goal.returns-clause-cause
returns-clause-cause g c =
    c.in_ok-found.ensures.cause
