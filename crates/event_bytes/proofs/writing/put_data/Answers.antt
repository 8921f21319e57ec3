use Rattle.std.proofs.Common.{true}
use Rattle.codec.proofs.Writing.{behind, both}
use Rattle.frames.specs.Formats.{sent}
use Rattle.event_bytes.specs.Entries.{entry}
use Rattle.event_bytes.proofs.writing.put_data.Goals as goal

pub returns : goal.returns
unfolding entry sent
returns c =
    behind c.u8.ensures
    (both c.put_head.ensures (both c.u64.ensures (c.put_body.ensures true)))
