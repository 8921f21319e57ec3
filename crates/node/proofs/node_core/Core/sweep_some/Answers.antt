use Rattle.std.proofs.Common.{◌+◌, ◌<◌, ap, ◌∙◌, arith}
use Rattle.heap.specs.Heap.{HeapView}
use Rattle.model.specs.Collecting.{unswept}
use Rattle.model.specs.View.{NodeView}
use Rattle.node.specs.Inside.{view_of}
use Rattle.node.proofs.Sweeping.{node-swept}
use Rattle.node.proofs.node_core.Core.sweep_some.Goals as goal
use Rattle.node.proofs.node_core.Core.sweep_some.Goals.{After-cursor-cursor}

some : (c : After-cursor-cursor) → c.args.count < unswept (view_of c.self.inside).local
some c =
    rw (← c.self.view_is) at c.requires.some

pub invariant_of-self : goal.invariant_of-self
invariant_of-self c =
    let n : NodeView = view_of c.self.inside in
    let less = some (goal.at.invariant_of-self c).After-cursor-cursor in
    let done = c.sweep-freed.ensures.done in
    record {
      node = node-swept {last = n.local.phases.swept}
          {cursor = n.local.phases.cursor + c.args.count} c.cycle.result c.cursor-cursor.result
          c.args.count c.self.invariant.node
          (record {
            unfinished = rw (← c.self.view_is) at c.requires.unfinished;
            heap = ap (λ (v : HeapView). v.heap) done;
          })
          (record {
            sound = c.advance.ensures.sound;
            is = c.advance.ensures.done;
            within = omega (arith, less);
          });
      limit = ap (λ (v : HeapView). v.limit) done ∙ c.self.invariant.limit;
    }
