use Rattle.std.proofs.Common.{ap}
use Rattle.heap.specs.Heap.{HeapView}
use Rattle.node.proofs.Sound.{node-placed, sound-heap}
use Rattle.node.proofs.node_core.Core.put_place.Goals as goal

pub invariant_of-self : goal.invariant_of-self
invariant_of-self c =
    sound-heap c.self.invariant
    (rw c.set_place.ensures
    (node-placed _ c.self.invariant.node c.args.object c.args.place c.args.value
    (rw (← c.self.view_is) at c.requires)))
    (ap (λ (h : HeapView). h.limit) c.set_place.ensures)
