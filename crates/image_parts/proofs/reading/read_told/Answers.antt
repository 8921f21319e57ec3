use Rattle.codec.proofs.Readers.{both_read}
use Rattle.image_parts.specs.Grammar.{told_format}
use Rattle.image_parts.proofs.reading.read_told.Goals as goal

pub returns-clause-value : goal.returns-clause-value
unfolding told_format
returns-clause-value c =
    let reports = rw c.reports_told.ensures at c.in_ok-reports.ensures.value in
    let registers = rw c.from.ensures at c.in_ok-registers.ensures.value in
    both_read reports registers
