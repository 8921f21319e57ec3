use Rattle.std.proofs.Common.{◌≡◌, ◌<◌, ◌≤◌, Some, refl, subst, sym}
use Rattle.model.specs.Heaps.{object_at}
use Rattle.heap.specs.Heap.{HeapView}
use Rattle.heap.specs.Stored.{view_of}
use Rattle.heap.proofs.Given.{Shows, within-limits}
use Rattle.heap.proofs.heap.Heap.is_marked.Goals as goal

pub returns-in-Some-clause-within : goal.returns-in-Some-clause-within
returns-in-Some-clause-within c =
    let h = c.self.inside in
    let r = c.args.object in
    let o = c.in-Some.object.now in
    let shows : Shows (view_of h).heap h.objects.slots h.objects.free =
    record { slots = refl; free = refl } in
    subst
    (λ (v : HeapView). object_at v.heap r ≡ Some o → (r.slot < v.limit) × (1 ≤ r.generation))
    c.self.view_is (within-limits shows c.len.ensures.sound r o)
    (sym (rw c.in-Some.is at c.object.ensures))
