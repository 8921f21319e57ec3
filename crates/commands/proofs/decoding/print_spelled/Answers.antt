use Rattle.std.proofs.Common.{inl}
use Rattle.msg.specs.Frames.{plain}
use Rattle.commands.specs.Frames.{frame}
use Rattle.commands.proofs.Replies.{printed_as}
use Rattle.commands.proofs.decoding.print_spelled.Goals as goal

pub returns-in-Ok-clause-status : goal.returns-in-Ok-clause-status
returns-in-Ok-clause-status g c =
    let spelled = c.in-Ok.ensures.found in
    printed_as c.print_frame.result c.print_frame.ensures.text c.print_frame.ensures.status
    (λ text status is. inl (frame (plain c.in-Ok.frame) spelled.0 spelled.1 is text))
