use Rattle.image.proofs.Logged.{any_short}
use Rattle.image.proofs.Made.{in_any_case}
use Rattle.image.proofs.restoring.from_any_bytes.Goals as goal

pub returns-clause-last : goal.returns-clause-last
returns-clause-last c =
    in_any_case c.of.result (any_short c.args.bytes.now _ c.in_ok-core.ensures.read)
