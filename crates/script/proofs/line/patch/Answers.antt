use Rattle.std.proofs.Common.{◌∙◌}
use Rattle.script.proofs.Readers.{patch_read}
use Rattle.script.proofs.line.patch.Goals as goal

pub returns : goal.returns
returns c =
    c.say_if.ensures
    ∙ patch_read c.args.node c.new-words.ensures c.u16-object.ensures c.u32-offset.ensures
    c.word-hex.ensures c.is_done.ensures
