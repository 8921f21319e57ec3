use Rattle.std.proofs.Common.{◌∙◌}
use Rattle.script.proofs.Readers.{resolve_read}
use Rattle.script.proofs.line.resolve.Goals as goal

pub returns : goal.returns
returns c =
    c.say_if.ensures
    ∙ resolve_read c.args.node c.new-words.ensures c.u16-register.ensures
    c.reference-reference.ensures c.is_done.ensures
