use Rattle.std.proofs.Common.{sym, ◌∙◌}
use Rattle.node.specs.Inside.{view_of}
use Rattle.node.proofs.Nodes.{node-kept_with}
use Rattle.node.proofs.node_core.Core.mark_saved_to.Goals as goal

pub invariant_of-self : goal.invariant_of-self
invariant_of-self c =
    let left = c.mark_saved_to.ensures in
    let other = sym c.is_other.ensures ∙ c.if-is_other.true in
    record {
      node = rw left.done (node-kept_with (view_of c.self.inside) c.args.peer c.args.sent
          c.args.received c.self.invariant.node (rw (← c.self.view_is) at other)
          (rw left.done at left.sound));
      limit = c.self.invariant.limit;
    }
