use Rattle.std.proofs.Common.{sym}
use Rattle.node.specs.Inside.{view_of}
use Rattle.node.proofs.Messages.{numbered-sendable}
use Rattle.node.proofs.node_core.Core.numbered_frame.Goals as goal

pub frame-requires-clause-sendable : goal.frame-requires-clause-sendable
frame-requires-clause-sendable c =
    rw (← c.self.view_is)
    (numbered-sendable (view_of c.self.inside) c.self.invariant.node c.args.to
    c.in_ok-message.message.now _ (sym c.in_ok-message.ensures.value))
