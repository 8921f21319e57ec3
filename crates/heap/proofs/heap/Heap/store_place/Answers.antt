use Rattle.std.proofs.Common.{sym, ap, ◌∙◌}
use Rattle.model.specs.State.{Heap}
use Rattle.model.specs.Heaps.{placing, with_rewritten}
use Rattle.model.specs.Reclaiming.{is_recent}
use Rattle.heap.specs.Blocks.{Covers}
use Rattle.heap.proofs.Ages.{noted-none, on-either}
use Rattle.heap.proofs.heap.Heap.store_place.Goals as goal

pub returns-clause-done : goal.returns-clause-done
returns-clause-done c =
    let a = c.args in
    let h = a.self.now.heap in
    let covers : Covers is_recent c.self.inside.recent h.slots =
    rw (← c.self.view_is) c.self.invariant.recent in
    let r = c.named-named.result in
    let v = c.held-value.result in
    rw (← c.named-named.ensures, ← c.held-value.ensures) (on-either c.write_place.result
    (c.write_place.ensures.done
    ∙ ap
    (λ (g : Heap). record a.self.now { heap = with_rewritten g r (placing a.place v) })
    (sym (noted-none a.own r v covers (c.is_empty.ensures c.if-not-is_empty.false)))))
