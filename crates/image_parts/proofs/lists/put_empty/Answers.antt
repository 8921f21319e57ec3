use Rattle.image_parts.proofs.Registers.{empty_written}
use Rattle.image_parts.proofs.lists.put_empty.Goals as goal

pub returns : goal.returns
returns c =
    empty_written 16 c.args.registers.now _ _ c.requires.count c.requires.empty c.array.ensures
