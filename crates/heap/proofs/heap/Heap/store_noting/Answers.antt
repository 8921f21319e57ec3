use Rattle.std.proofs.Common.{ap}
use Rattle.model.specs.State.{Heap}
use Rattle.heap.proofs.Ages.{noted-after}
use Rattle.heap.proofs.heap.Heap.store_noting.Goals as goal

pub returns-clause-done : goal.returns-clause-done
returns-clause-done c =
    let a = c.args in
    rw (
      c.note_write.ensures,
      c.in_ok-write_place.ensures.done,
      ← c.named-named.ensures,
      ← c.held-value.ensures,
    )
    (ap (λ (g : Heap). record a.self.now { heap = g })
    (noted-after a.own a.self.now.heap c.named-named.result a.place c.held-value.result))
