use Rattle.std.proofs.Common.{sym, ◌∙◌}
use Rattle.image_parts.proofs.Registers.{empty_written}
use Rattle.image_parts.proofs.lists.put_few.Goals as goal

pub returns-then-all_empty : goal.returns-then-all_empty
returns-then-all_empty c =
    empty_written 8 c.args.registers.now _ _ c.if-registers-eq-AT_ONCE.true
    (sym c.all_empty.ensures ∙ c.if-all_empty.true) c.array.ensures
