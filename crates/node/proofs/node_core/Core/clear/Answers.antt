use Rattle.std.proofs.Common.{◌≡◌, Err, ap, ◌∙◌, subst}
use Rattle.std.proofs.lemmas.Result.{err_from_is_err_and}
use Rattle.model.specs.Heaps.{heap_clear}
use Rattle.model.specs.View.{NodeView}
use Rattle.heap.specs.Heap.{HeapView}
use Rattle.node.specs.Inside.{view_of}
use Rattle.node.proofs.Sound.{heap-back, node-cleared, sound-heap}
use Rattle.node.proofs.Refusing.{clear_refused}
use Rattle.node.proofs.node_core.Core.clear.Goals as goal

pub invariant_of-self : goal.invariant_of-self
invariant_of-self c = heap-back c.self.invariant c.in_err-clear.ensures.unchanged

pub invariant_of-self-2 : goal.invariant_of-self-2
invariant_of-self-2 c =
    sound-heap c.self.invariant
    (node-cleared _ c.self.invariant.node _ _ _ c.in_ok-clear.ensures.done)
    c.in_ok-clear.ensures.limit

pub returns-in_err-clear-clause-performed : goal.returns-in_err-clear-clause-performed
returns-in_err-clear-clause-performed c =
    let p = err_from_is_err_and c.from_residual.result c.from_residual.ensures.1 in
    let refused =
    subst
    (λ (n : NodeView).
    heap_clear n.local.own n.local.heap c.args.object c.args.place ≡ Err c.in_err-clear.field-0.0)
    c.self.view_is c.in_err-clear.ensures.refused in
    rw (p.1, p.2) (record {
      performs = clear_refused c.args.self.now _ _ _ refused;
      unchanged =
          ap (λ (h : HeapView). view_of (record c.self.inside { heap = h }))
          c.in_err-clear.ensures.unchanged
          ∙ c.self.view_is;
    })
