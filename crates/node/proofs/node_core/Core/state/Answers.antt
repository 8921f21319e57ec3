use Rattle.std.proofs.Common.{subst}
use Rattle.heap.specs.Heap.{IsSlotted}
use Rattle.link.proofs.EveryLink.{links-kept}
use Rattle.model.specs.View.{NodeView, kept_view}
use Rattle.node.specs.Inside.{view_of}
use Rattle.node.specs.Invariant.{IsNode, IsStanding, links_of}
use Rattle.node.proofs.Nodes.{node-kept}
use Rattle.node.proofs.node_core.Core.state.Goals as goal

pub returns-clause-sound : goal.returns-clause-sound
returns-clause-sound c = subst IsNode c.self.view_is c.self.invariant.node

pub returns-clause-saved : goal.returns-clause-saved
returns-clause-saved c =
    let m = c.self.inside in
    let n : NodeView = view_of m in
    let is = c.self.invariant.node in
    let slots : IsSlotted m.heap.heap m.shape.slots =
    subst (IsSlotted m.heap.heap) c.self.invariant.limit c.live.ensures.slots in
    subst (λ (v : NodeView). IsStanding (kept_view v)) c.self.view_is
    (record {
      node = node-kept n is (links-kept (links_of n) is.links.links);
      slots = slots;
    })
