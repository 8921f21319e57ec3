use Rattle.std.proofs.Common.{arith}
use Rattle.codec.specs.Formats.{number4, number8}
use Rattle.codec.proofs.Writing.{so}
use Rattle.frames.specs.Formats.{reference}
use Rattle.frames.proofs.writing.put_reference.Goals as goal

pub returns : goal.returns
unfolding reference number4 number8
returns c =
    so (λ k. (omega arith, (omega arith, omega arith)))
    (rw c.tagged_bytes.ensures at c.append.ensures)
