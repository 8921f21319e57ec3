use Rattle.std.proofs.Common.{false, true, sym, ◌∙◌}
use Rattle.codec.proofs.Readers.{both_read, of_tag}
use Rattle.frames.specs.declared.version.Version.TheVariants.{Second}
use Rattle.frames.specs.Formats.{bodies, body_format, body_tag}
use Rattle.frames.proofs.Wholes.{message_decodes, over_decodes}
use Rattle.frames.proofs.reading.whole_wide.Goals as goal

pub returns-then-tag-eq-POST : goal.returns-then-tag-eq-POST
returns-then-tag-eq-POST c =
    c.whole_letter.ensures c.args.start
    (both_read c.read_head-from.ensures
    (both_read c.u64-stamp.ensures (rw c.if-tag-eq-POST.true at c.u8-tag.ensures)))

pub returns-then-not-finish : goal.returns-then-not-finish
unfolding body_format
returns-then-not-finish c =
    over_decodes false
    (both_read c.read_head-from.ensures (both_read c.u64-stamp.ensures
    (of_tag (body_tag true Second) (bodies true Second) c.u8-tag.ensures
    c.read_short-body.ensures)))
    (sym c.finish.ensures ∙ c.if-not-finish.true)

pub returns : goal.returns
unfolding body_format
returns c =
    message_decodes false
    (both_read c.read_head-from.ensures (both_read c.u64-stamp.ensures
    (of_tag (body_tag true Second) (bodies true Second) c.u8-tag.ensures
    c.read_short-body.ensures)))
    c.wide_message.result (sym c.finish.ensures ∙ c.if-not-finish.false)
    c.wide_message.ensures.made
    c.wide_message.ensures.fits c.wide_message.ensures.refused
