use Rattle.std.proofs.Common.{true}
use Rattle.codec.proofs.Writing.{both}
use Rattle.image_parts.specs.Grammar.{message_format}
use Rattle.image_parts.proofs.links.put_message.Goals as goal

pub returns : goal.returns
unfolding message_format
returns c = both c.u64.ensures (c.put_body.ensures true)
