use Rattle.std.proofs.Common.{sym, ◌∙◌}
use Rattle.node.specs.Inside.{view_of}
use Rattle.node.proofs.Nodes.{node-trimmed}
use Rattle.node.proofs.Sound.{links-back}
use Rattle.node.proofs.node_core.Core.acknowledge.Goals as goal

pub invariant_of-self : goal.invariant_of-self
invariant_of-self c = links-back c.self.invariant c.in_err-trim.ensures.unchanged

pub invariant_of-self-2 : goal.invariant_of-self-2
invariant_of-self-2 c =
    let left = c.in_ok-trim.ensures in
    let addressed = sym c.is_addressed.ensures ∙ c.if-not-is_addressed.false in
    record {
      node = rw left.done (node-trimmed (view_of c.self.inside) c.args.ack.by c.args.ack.of
          c.args.ack.number c.self.invariant.node (rw (← c.self.view_is) at addressed)
          (rw left.done at left.sound));
      limit = c.self.invariant.limit;
    }
