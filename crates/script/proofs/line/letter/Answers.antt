use Rattle.std.proofs.Common.{◌∙◌}
use Rattle.script.proofs.Readers.{letter_read}
use Rattle.script.proofs.line.letter.Goals as goal

pub returns : goal.returns
returns c =
    c.say_if.ensures
    ∙ letter_read c.args.node c.args.text.now c.is_empty.result c.requires c.is_empty.ensures
