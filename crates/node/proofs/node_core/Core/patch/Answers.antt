use Rattle.std.proofs.Common.{◌≡◌, Err, ap, ◌∙◌, subst}
use Rattle.std.proofs.lemmas.Result.{err_from_is_err_and}
use Rattle.model.specs.Heaps.{heap_patch}
use Rattle.model.specs.View.{NodeView}
use Rattle.heap.specs.Heap.{HeapView}
use Rattle.node.specs.Inside.{view_of}
use Rattle.node.proofs.Sound.{heap-back, node-patched, sound-heap}
use Rattle.node.proofs.Refusing.{patch_refused}
use Rattle.node.proofs.node_core.Core.patch.Goals as goal

pub invariant_of-self : goal.invariant_of-self
invariant_of-self c = heap-back c.self.invariant c.in_err-patch.ensures.unchanged

pub invariant_of-self-2 : goal.invariant_of-self-2
invariant_of-self-2 c =
    sound-heap c.self.invariant
    (node-patched _ c.self.invariant.node _ _ _ _ c.in_ok-patch.ensures.done)
    c.in_ok-patch.ensures.limit

pub returns-in_err-patch-clause-performed : goal.returns-in_err-patch-clause-performed
returns-in_err-patch-clause-performed c =
    let p = err_from_is_err_and c.from_residual.result c.from_residual.ensures.1 in
    let refused =
    subst
    (λ (n : NodeView).
    heap_patch n.local.shape n.local.own n.local.heap c.args.object c.args.offset c.args.bytes.now
    ≡ Err c.in_err-patch.field-0.0)
    c.self.view_is c.in_err-patch.ensures.refused in
    rw (p.1, p.2) (record {
      performs = patch_refused c.args.self.now c.args.object c.args.bytes _ c.args.offset refused;
      unchanged =
          ap (λ (h : HeapView). view_of (record c.self.inside { heap = h }))
          c.in_err-patch.ensures.unchanged
          ∙ c.self.view_is;
    })
