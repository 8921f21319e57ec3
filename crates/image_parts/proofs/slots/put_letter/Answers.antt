use Rattle.std.proofs.Common.{false, true}
use Rattle.codec.proofs.Writing.{unwritten}
use Rattle.image_parts.proofs.Letters.{letter_written}
use Rattle.image_parts.proofs.slots.put_letter.Goals as goal

pub returns-then-wide : goal.returns-then-wide
returns-then-wide c =
    rw c.if-wide.true
    (letter_written true c.args.letter.now c.put_front.ensures
    (rw c.take.ensures at c.put_more.ensures))

pub returns-else-wide : goal.returns-else-wide
returns-else-wide c =
    rw c.if-wide.false
    (letter_written false c.args.letter.now c.put_front.ensures (unwritten c.put_front.new.out))
