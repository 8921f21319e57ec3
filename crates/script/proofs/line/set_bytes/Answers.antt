use Rattle.std.proofs.Common.{◌∙◌}
use Rattle.script.proofs.Readers.{set_bytes_read}
use Rattle.script.proofs.line.set_bytes.Goals as goal

pub returns : goal.returns
returns c =
    c.say_if.ensures
    ∙ set_bytes_read c.args.node c.new-words.ensures c.u16-object.ensures c.word-hex.ensures
    c.is_done.ensures
