use Rattle.std.proofs.Common.{arith, true}
use Rattle.disk_journal.proofs.Spelled.{shut_alone, shut_length, shut_more}
use Rattle.disk_journal.proofs.journal.spelled_log.Goals as goal

pub returns-then-not-seals-clause-bytes : goal.returns-then-not-seals-clause-bytes
returns-then-not-seals-clause-bytes g c =
    shut_alone (g.P.Persist.image true c.args.value.now) c.in_ok-bytes.ensures.bytes

pub returns-then-not-seals-clause-end : goal.returns-then-not-seals-clause-end
returns-then-not-seals-clause-end g c =
    let long = shut_length (g.P.Persist.image true c.args.value.now) c.in_ok-bytes.ensures.bytes in
    omega (arith, long, c.len-end.ensures, c.in_ok-bytes.bytes.ok.0)

pub image_in-requires-clause-behind : goal.image_in-requires-clause-behind
image_in-requires-clause-behind g c =
    let long = shut_length (g.P.Persist.image true c.args.value.now) c.in_ok-bytes.ensures.bytes in
    omega (arith, long, c.len-end.ensures, c.in_ok-bytes.bytes.ok.0)

pub returns-clause-bytes : goal.returns-clause-bytes
returns-clause-bytes g c =
    shut_more (g.P.Persist.image true c.args.value.now) _ c.in_ok-bytes.ensures.bytes
    c.in_ok-bytes-2.ensures

pub returns-clause-end : goal.returns-clause-end
returns-clause-end g c =
    let long = shut_length (g.P.Persist.image true c.args.value.now) c.in_ok-bytes.ensures.bytes in
    omega (arith, long, c.len-end.ensures, c.in_ok-bytes.bytes.ok.0)
