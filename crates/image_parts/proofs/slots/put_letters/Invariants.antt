use Rattle.std.proofs.Common.{take}
use Rattle.codec.specs.Writing.{PutsAll}
use Rattle.frames.specs.declared.version.Version.TheVariants.{Second}
use Rattle.image_parts.specs.Grammar.{letter_format}
use Rattle.image_parts.proofs.slots.put_letters.Given as goal

abbrev pub invariant-loop-number : goal.invariant-loop-number
invariant-loop-number l =
    PutsAll (letter_format l.wide Second) l.initial.out l.out (take l.number l.heap.heap.letters)
