use Rattle.std.proofs.Common.{◌∙◌, sym}
use Rattle.world.specs.Shows.{bytes_read}
use Rattle.commands.proofs.Replies.{wide_reads}
use Rattle.commands.proofs.simulation.read.Goals as goal

pub returns-then-is_wide : goal.returns-then-is_wide
returns-then-is_wide c =
    rw c.in-Open.is
    (wide_reads (λ w. bytes_read w c.args.node c.args.object c.args.offset c.args.count)
    c.read_in.result c.in-Open.freed
    (λ w there. sym (c.is_wide.ensures w there) ∙ c.if-is_wide.true) c.read_in.ensures)
