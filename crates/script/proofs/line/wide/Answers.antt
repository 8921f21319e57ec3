use Rattle.std.proofs.Common.{◌∙◌}
use Rattle.script.proofs.Readers.{wide_read}
use Rattle.script.proofs.line.wide.Goals as goal

pub returns : goal.returns
returns c =
    c.say_if.ensures
    ∙ wide_read c.new-words.ensures c.u8-nodes.ensures c.u16-registers.ensures c.u32-slots.ensures
    c.u8-places.ensures c.u32-bytes.ensures c.is_done.ensures
