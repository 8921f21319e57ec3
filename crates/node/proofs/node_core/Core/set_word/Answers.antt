use Rattle.node.proofs.Sound.{heap-back, node-word_set, sound-heap}
use Rattle.node.proofs.node_core.Core.set_word.Goals as goal

pub invariant_of-self : goal.invariant_of-self
invariant_of-self c = heap-back c.self.invariant c.in_err-set_word.ensures.unchanged

pub invariant_of-self-2 : goal.invariant_of-self-2
invariant_of-self-2 c =
    sound-heap c.self.invariant
    (node-word_set _ c.self.invariant.node _ _ _ c.in_ok-set_word.ensures.done)
    c.in_ok-set_word.ensures.limit
