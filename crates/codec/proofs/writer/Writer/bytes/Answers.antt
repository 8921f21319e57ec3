use Rattle.codec.proofs.Writing.{uncounted_bytes}
use Rattle.codec.proofs.writer.Writer.bytes.Goals as goal

pub returns-else-count : goal.returns-else-count
returns-else-count c = uncounted_bytes c.args.part.now (c.count.ensures.over c.if-count.false)
