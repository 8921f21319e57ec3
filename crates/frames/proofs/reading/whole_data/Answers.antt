use Rattle.std.proofs.Common.{true, sym, ◌∙◌}
use Rattle.codec.proofs.Readers.{both_read}
use Rattle.frames.proofs.Wholes.{message_whole, over_decodes, unfit_decodes}
use Rattle.frames.proofs.reading.whole_data.Goals as goal

pub returns-then-not-finish : goal.returns-then-not-finish
returns-then-not-finish c =
    over_decodes true
    (both_read c.read_head-from.ensures (both_read c.u64-stamp.ensures c.read_body-body.ensures))
    (sym c.finish.ensures ∙ c.if-not-finish.true)

pub returns-then-not-plain_data_fits : goal.returns-then-not-plain_data_fits
returns-then-not-plain_data_fits c =
    unfit_decodes true
    (both_read c.read_head-from.ensures (both_read c.u64-stamp.ensures c.read_body-body.ensures))
    (sym c.plain_data_fits.ensures ∙ c.if-not-plain_data_fits.true)

pub returns : goal.returns
returns c =
    message_whole true
    (both_read c.read_head-from.ensures (both_read c.u64-stamp.ensures c.read_body-body.ensures))
    (sym c.finish.ensures ∙ c.if-not-finish.false)
    (sym c.plain_data_fits.ensures ∙ c.if-not-plain_data_fits.false)
