use Rattle.std.proofs.Common.{true}
use Rattle.codec.specs.Writing.{Writes}
use Rattle.codec.proofs.Writing.{behind, both}
use Rattle.msg.specs.Limits.{is_plain_body}
use Rattle.frames.specs.Grammar.{frame}
use Rattle.frames.proofs.Written.{data_spelled}
use Rattle.frames.proofs.writing.put_data.Goals as goal

pub returns : goal.returns
unfolding frame
returns c =
    let m = c.args.message.now in
    data_spelled (λ t wide. Writes c.args.out.now c.put_body.new.out t wide)
    (is_plain_body m.body.now) ((m.from, (m.to, m.number)), (m.stamp, m.body.now))
    (behind (rw c.first_byte.ensures at c.u8.ensures)
    (both c.put_head.ensures (both c.u64.ensures (c.put_body.ensures true))))
