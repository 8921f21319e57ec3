use Rattle.std.proofs.Common.{ap, option_to_list}
use Rattle.heap.specs.Heap.{HeapView}
use Rattle.node.proofs.Sharing.{node-shared}
use Rattle.node.proofs.Sound.{sound-heap}
use Rattle.node.proofs.node_core.Core.share.Goals as goal

pub invariant_of-self : goal.invariant_of-self
invariant_of-self c =
    sound-heap c.self.invariant
    (rw c.share.ensures
    (node-shared _ c.self.invariant.node (option_to_list c.args.reference)))
    (ap (λ (h : HeapView). h.limit) c.share.ensures)
