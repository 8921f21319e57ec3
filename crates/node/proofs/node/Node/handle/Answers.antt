use Rattle.node.proofs.Held.{handled-kept, other-handled}
use Rattle.node.proofs.node.Node.handle.Goals as goal

pub invariant_of-self : goal.invariant_of-self
invariant_of-self c =
    handled-kept _ _ c.args.other.now c.perform.result
    (other-handled c.args.other.now c.self.invariant c.requires.waits c.requires.comes
    c.perform.ensures.performed c.perform.ensures.memory_free)
