use Rattle.std.proofs.Common.{◌∙◌}
use Rattle.script.proofs.Readers.{post_read}
use Rattle.script.proofs.line.post.Goals as goal

pub returns : goal.returns
returns c =
    c.say_if.ensures
    ∙ post_read c.args.node c.new-words.ensures c.u8-to.ensures c.u32-label.ensures
    c.u16-first.ensures c.u8-count.ensures c.word-hex.ensures c.is_done.ensures
