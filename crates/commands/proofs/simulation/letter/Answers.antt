use Rattle.std.proofs.Common.{◌∙◌, sym}
use Rattle.world.specs.Shows.{letter_bytes_read}
use Rattle.commands.proofs.Replies.{wide_reads}
use Rattle.commands.proofs.simulation.letter.Goals as goal

pub returns-then-is_wide : goal.returns-then-is_wide
returns-then-is_wide c =
    rw c.in-Open.is
    (wide_reads (λ w. letter_bytes_read w c.args.node) c.letter_in.result c.in-Open.freed
    (λ w there. sym (c.is_wide.ensures w there) ∙ c.if-is_wide.true) c.letter_in.ensures)
