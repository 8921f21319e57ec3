use Rattle.std.proofs.Common.{false, ap, ◌∙◌, subst}
use Rattle.std.proofs.lemmas.Result.{err_from_is_err_and}
use Rattle.model.specs.Checks.{IsFirstRefusal}
use Rattle.model.specs.Heaps.{heap_set_bytes}
use Rattle.model.specs.View.{NodeView}
use Rattle.heap.specs.Heap.{HeapView}
use Rattle.node.specs.Inside.{view_of}
use Rattle.node.proofs.Sound.{heap-back, node-bytes_set, sound-heap}
use Rattle.node.proofs.Refusing.{set_bytes_refused}
use Rattle.node.proofs.node_core.Core.set_bytes.Goals as goal

pub invariant_of-self : goal.invariant_of-self
invariant_of-self c = heap-back c.self.invariant c.in_err-set_bytes.ensures.unchanged

pub invariant_of-self-2 : goal.invariant_of-self-2
invariant_of-self-2 c =
    sound-heap c.self.invariant
    (node-bytes_set _ c.self.invariant.node _ _ _ c.in_ok-set_bytes.ensures.done)
    c.in_ok-set_bytes.ensures.limit

pub returns-in_err-set_bytes : goal.returns-in_err-set_bytes
returns-in_err-set_bytes c =
    let p = err_from_is_err_and c.from_residual.result c.from_residual.ensures.1 in
    let refused =
    subst
    (λ (n : NodeView).
    IsFirstRefusal false c.in_err-set_bytes.field-0.0
    (heap_set_bytes n.local.shape n.local.own n.local.heap c.args.object c.args.bytes.now))
    c.self.view_is c.in_err-set_bytes.ensures.refused in
    rw (p.1, p.2) (record {
      performs = set_bytes_refused c.args.self.now c.args.object c.args.bytes _ refused;
      unchanged =
          ap (λ (h : HeapView). view_of (record c.self.inside { heap = h }))
          c.in_err-set_bytes.ensures.unchanged
          ∙ c.self.view_is;
    })
