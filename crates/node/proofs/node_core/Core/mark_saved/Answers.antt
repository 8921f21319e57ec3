use Rattle.node.specs.Inside.{view_of}
use Rattle.node.proofs.Nodes.{node-kept}
use Rattle.node.proofs.node_core.Core.mark_saved.Goals as goal

pub invariant_of-self : goal.invariant_of-self
invariant_of-self c =
    let left = c.mark_saved.ensures in
    record {
      node = rw left.done (node-kept (view_of c.self.inside) c.self.invariant.node
          (rw left.done at left.sound));
      limit = c.self.invariant.limit;
    }
