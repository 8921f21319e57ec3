use Rattle.std.proofs.Common.{◌-◌, ap, ◌∙◌, arith}
use Rattle.heap.specs.Heap.{HeapView}
use Rattle.model.specs.View.{NodeView}
use Rattle.node.specs.Inside.{view_of}
use Rattle.node.proofs.Sweeping.{node-swept}
use Rattle.node.proofs.node_core.Core.sweep_rest.Goals as goal

pub invariant_of-self : goal.invariant_of-self
invariant_of-self c =
    let n : NodeView = view_of c.self.inside in
    let done = c.sweep-freed.ensures.done in
    record {
      node = node-swept {last = n.local.phases.cycle} {cursor = 0} c.cycle.result
          c.cursor-cursor.result (c.slots.result - c.cursor-cursor.result) c.self.invariant.node
          (record {
            unfinished = rw (← c.self.view_is) at c.requires;
            heap = ap (λ (v : HeapView). v.heap) done;
          })
          (record {
            sound = c.end_sweep.ensures.sound;
            is = c.end_sweep.ensures.done;
            within = omega arith;
          });
      limit = ap (λ (v : HeapView). v.limit) done ∙ c.self.invariant.limit;
    }
