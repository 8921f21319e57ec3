use Rattle.node.specs.Inside.{view_of}
use Rattle.node.proofs.Balances.{balance-small}
use Rattle.node.proofs.Nodes.{node-counted}
use Rattle.node.proofs.node_core.Core.count_in.Goals as goal

pub count_received-requires : goal.count_received-requires
count_received-requires c = balance-small (view_of c.self.inside) c.self.invariant.node

pub invariant_of-self : goal.invariant_of-self
invariant_of-self c =
    let left = c.take_next.ensures in
    record {
      node = rw (left.done, c.count_received.ensures, c.balance_of.ensures, c.cycle.ensures.value)
          (node-counted (view_of c.self.inside) c.args.from c.args.stamp c.args.body.now
          c.self.invariant.node (rw (← c.self.view_is) at c.requires)
          (rw left.done at left.sound));
      limit = c.self.invariant.limit;
    }
