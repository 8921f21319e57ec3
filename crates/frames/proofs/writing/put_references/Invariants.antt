use Rattle.std.proofs.Common.{take}
use Rattle.codec.specs.Writing.{PutsAll}
use Rattle.frames.specs.Formats.{optional}
use Rattle.frames.specs.declared.version.Version.TheVariants.{Second}
use Rattle.frames.proofs.writing.put_references.Given as goal

abbrev pub invariant-loop-reference : goal.invariant-loop-reference
invariant-loop-reference l =
    PutsAll (optional Second) l.fn.out l.out (take l.reference-index l.references)
