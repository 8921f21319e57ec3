use Rattle.std.proofs.Common.{arith}
use Rattle.codec.specs.Pieces.{Gains}
use Rattle.codec.proofs.Pieces.{then_more, tag_gained}
use Rattle.msg.specs.Limits.{is_plain_body}
use Rattle.std.proofs.Common.{true}
use Rattle.frames.specs.Grammar.{frame}
use Rattle.frames.proofs.Written.{data_spelled}
use Rattle.frames.proofs.writing.add_data.Goals as goal

pub returns : goal.returns
unfolding frame
returns c =
    let m = c.args.message.now in
    data_spelled (λ t wide. Gains c.args.piece.now c.add_body.new.piece t 48 wide)
    (is_plain_body m.body.now) ((m.from, (m.to, m.number)), (m.stamp, m.body.now))
    (tag_gained (rw c.first_byte.ensures at c.u8.ensures)
    (then_more {k = 47} c.add_head.ensures
    (then_more {k = 37} c.u64.ensures (c.add_body.ensures true) (omega arith)) (omega arith))
    (omega arith))
