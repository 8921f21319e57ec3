use Rattle.std.proofs.Common.{◌*◌, take}
use Rattle.codec.specs.Pieces.{AddsAll}
use Rattle.frames.specs.Formats.{optional}
use Rattle.frames.specs.declared.version.Version.TheVariants.{Second}
use Rattle.image_parts.proofs.lists.add_few.Given as goal

abbrev pub invariant-loop-register : goal.invariant-loop-register
invariant-loop-register l = AddsAll (optional Second) (14 * l.register-index) l.fn.piece l.piece
    (take l.register-index l.registers)
