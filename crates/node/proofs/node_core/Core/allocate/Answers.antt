use Rattle.std.proofs.Common.{arith, ◌∙◌}
use Rattle.node.specs.Inside.{view_of}
use Rattle.node.proofs.Sound.{Allocates, heap-back, node-allocated}
use Rattle.node.proofs.node_core.Core.allocate.Goals as goal

pub invariant_of-self : goal.invariant_of-self
invariant_of-self c = heap-back c.self.invariant c.in_err-reference.ensures.unchanged

pub invariant_of-self-2 : goal.invariant_of-self-2
invariant_of-self-2 c =
    let left = c.in_ok-reference.ensures in
    let done = rw c.self.invariant.limit at left.done in
    let made : Allocates (view_of c.self.inside) _ _ _ _ _ = record {
      now = c.cycle-cycle.ensures.value;
      done = done;
      slot = omega (arith, left.within.0, c.self.invariant.limit);
      generation = left.within.1;
    } in
    record {
      node = node-allocated (view_of c.self.inside) c.self.invariant.node made;
      limit = left.limit ∙ c.self.invariant.limit;
    }
