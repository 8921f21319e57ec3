use Rattle.std.proofs.Common.{◌∙◌}
use Rattle.script.proofs.Shapes.{read_save}
use Rattle.script.proofs.line.asked_of.Goals as goal

pub returns-then-is_word : goal.returns-then-is_word
returns-then-is_word c = c.say.ensures ∙ read_save c.args.node c.args.text.now c.if-is_word.ensures
