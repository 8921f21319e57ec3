use Rattle.std.proofs.Common.{refl}
use Rattle.codec.proofs.Readers.{both_read, made, passed}
use Rattle.msg.specs.Limits.{body_fits}
use Rattle.image_parts.specs.Grammar.{message_format}
use Rattle.image_parts.proofs.reading.MessageReadable.read.Goals as goal

pub returns-clause-value : goal.returns-clause-value
unfolding message_format
returns-clause-value c =
    made _ _
    (both_read c.u64-stamp.ensures
    (passed body_fits c.in_ok-body.ensures.value (rw c.body_fits.ensures at c.check.ensures)))
    refl
