use Rattle.std.proofs.Common.{true, arith}
use Rattle.codec.proofs.Pieces.{then_more, tag_gained}
use Rattle.frames.specs.Formats.{sent}
use Rattle.event_bytes.specs.Entries.{entry}
use Rattle.event_bytes.proofs.writing.add_data.Goals as goal

pub returns : goal.returns
unfolding entry sent
returns c =
    tag_gained c.u8.ensures
    (then_more {k = 47} c.add_head.ensures
    (then_more {k = 37} c.u64.ensures (c.add_body.ensures true) (omega arith)) (omega arith))
    (omega arith)
