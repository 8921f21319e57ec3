use Rattle.node.specs.Inside.{view_of}
use Rattle.node.proofs.Messages.{frame-fits}
use Rattle.node.proofs.node_core.Core.frame.Goals as goal

pub invariant_of-result : goal.invariant_of-result
invariant_of-result c =
    let asked = rw (← c.self.view_is) at c.requires in
    record {
      fits = frame-fits (view_of c.self.inside) c.args.to c.args.number c.args.message.now
          c.self.invariant.node asked.other asked.number
          asked.last asked.sendable;
    }
