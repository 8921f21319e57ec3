use Rattle.std.proofs.Common.{ap}
use Rattle.heap.specs.Heap.{HeapView}
use Rattle.node.proofs.Sound.{node-registered, sound-heap}
use Rattle.node.proofs.node_core.Core.set_register.Goals as goal

pub invariant_of-self : goal.invariant_of-self
invariant_of-self c =
    sound-heap c.self.invariant
    (rw c.set_register.ensures
    (node-registered _ c.self.invariant.node c.args.register c.args.value
    (rw (← c.self.view_is) at c.requires.within)))
    (ap (λ (h : HeapView). h.limit) c.set_register.ensures)
