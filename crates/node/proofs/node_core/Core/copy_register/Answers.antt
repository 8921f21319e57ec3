use Rattle.node.proofs.Sound.{heap-back, node-copied, sound-heap}
use Rattle.node.proofs.node_core.Core.copy_register.Goals as goal

pub invariant_of-self : goal.invariant_of-self
invariant_of-self c = heap-back c.self.invariant c.in_err-copy_register.ensures.unchanged

pub invariant_of-self-2 : goal.invariant_of-self-2
invariant_of-self-2 c =
    sound-heap c.self.invariant
    (node-copied _ c.self.invariant.node _ _ _ c.in_ok-copy_register.ensures.done)
    c.in_ok-copy_register.ensures.limit
