use Rattle.std.proofs.Common.{ap}
use Rattle.model.specs.Shading.{filled}
use Rattle.heap.specs.Heap.{HeapView}
use Rattle.node.proofs.Sharing.{node-shared}
use Rattle.node.proofs.Sound.{sound-heap}
use Rattle.node.proofs.node_core.Core.share_each.Goals as goal

pub invariant_of-self : goal.invariant_of-self
invariant_of-self c =
    sound-heap c.self.invariant
    (rw c.share_each.ensures
    (node-shared _ c.self.invariant.node (filled c.args.references.now)))
    (ap (λ (h : HeapView). h.limit) c.share_each.ensures)
