use Rattle.std.proofs.Common.{drop, subst, sym}
use Rattle.disk.specs.Areas.{part}
use Rattle.disk_shelf.specs.Seals.{IsNextSealed, IsSealFound}
use Rattle.disk_shelf.proofs.seal.check_end.Goals as goal

pub returns-in_default-clause-bad : goal.returns-in_default-clause-bad
returns-in_default-clause-bad g c bad end =
    let held = part c.args.area (g.D.Disk.seen c.args.disk.now) in
    let none = subst (IsSealFound (drop c.args.at held)) c.in_default.is c.in_ok-seal.ensures.seal
    in
    c.check_next.ensures.bad bad
    (subst (λ d. IsNextSealed c.args.digest.now (drop c.args.at (part c.args.area d)))
    (sym c.log_seal_at.ensures.quiet.same) (end.next none))
