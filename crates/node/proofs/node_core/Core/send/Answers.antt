use Rattle.node.specs.Inside.{view_of}
use Rattle.node.proofs.Balances.{balance-small}
use Rattle.node.proofs.Nodes.{node-sent}
use Rattle.node.proofs.Sound.{links-back}
use Rattle.node.proofs.node_core.Core.send.Goals as goal

pub count_sent-requires : goal.count_sent-requires
count_sent-requires c = balance-small (view_of c.self.inside) c.self.invariant.node

pub invariant_of-self : goal.invariant_of-self
invariant_of-self c = links-back c.self.invariant c.in_err-number.ensures.unchanged

pub invariant_of-self-2 : goal.invariant_of-self-2
invariant_of-self-2 c =
    let left = c.in_ok-number.ensures in
    let same = c.cycle-cycle.ensures.value in
    record {
      node = rw (left.done, c.count_sent.ensures, c.balance_of-balance.ensures, same)
          (node-sent (view_of c.self.inside) c.args.to c.args.body c.self.invariant.node
          (rw (← c.self.view_is) at c.requires.there)
          (rw (← c.self.view_is) at c.requires.other)
          (rw (← c.self.view_is) at c.requires.sendable)
          (rw (left.done, same) at left.sound));
      limit = c.self.invariant.limit;
    }
