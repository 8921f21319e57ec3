use Rattle.image.proofs.Made.{image_short, in_any_case}
use Rattle.image.proofs.restoring.from_bytes.Goals as goal

pub returns-clause-last : goal.returns-clause-last
returns-clause-last c =
    in_any_case c.of.result (image_short c.args.bytes.now _ c.in_ok-core.ensures.read)
