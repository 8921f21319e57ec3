use Rattle.model.specs.Counting.{stamped}
use Rattle.model.specs.References.{IsSendable}
use Rattle.node.proofs.Nodes.{node-told}
use Rattle.node.proofs.Sound.{links-back}
use Rattle.node.proofs.node_core.Core.tell.Goals as goal

pub invariant_of-self : goal.invariant_of-self
invariant_of-self c = links-back c.self.invariant c.in_err-announce.ensures.unchanged

pub invariant_of-self-2 : goal.invariant_of-self-2
invariant_of-self-2 c =
    let left = c.in_ok-announce.ensures in
    let same = c.cycle-stamp.ensures.value in
    let p = c.args.self.now.local in
    let sendable : IsSendable p.shape (stamped p c.args.body) =
    record {
      stamp = c.requires.stamp;
      references = c.requires.references;
      place = c.requires.place;
    } in
    record {
      node = rw (left.done, same)
          (node-told _ c.args.body c.self.invariant.node
          (rw (← c.self.view_is) at sendable) (rw (left.done, same) at left.sound));
      limit = c.self.invariant.limit;
    }
