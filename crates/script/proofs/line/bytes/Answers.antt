use Rattle.std.proofs.Common.{◌∙◌}
use Rattle.script.proofs.Readers.{bytes_read}
use Rattle.script.proofs.line.bytes.Goals as goal

pub returns : goal.returns
returns c =
    c.say_if.ensures
    ∙ bytes_read c.args.node c.new-words.ensures c.u16-object.ensures c.u32-offset.ensures
    c.u32-count.ensures c.is_done.ensures
