use Rattle.std.proofs.Common.{◌≡◌, cond, sym, ap, ◌∙◌}
use Rattle.std.proofs.lemmas.Bool.{cond-false}
use Rattle.model.specs.State.{Heap}
use Rattle.model.specs.Heaps.{is_old_object, object_at, remember}
use Rattle.model.specs.Reclaiming.{is_recent}
use Rattle.heap.specs.Blocks.{Covers}
use Rattle.heap.proofs.Ages.{noted-none}
use Rattle.heap.proofs.heap.Heap.note_write.Goals.{else-not-is_empty-via-then-not-is_empty+else-is_old, else-not-is_empty-via-else-not-is_empty}
use Rattle.heap.proofs.heap.Heap.note_write.Goals as goal

pub returns-else-not-is_empty : goal.returns-else-not-is_empty
returns-else-not-is_empty c =
    let h = c.args.self.now.heap in
    let r = c.args.object in
    let own = c.args.own in
    let covers : Covers is_recent c.self.inside.recent h.slots =
    rw (← c.self.view_is) c.self.invariant.recent in
    let same : cond (is_old_object (object_at h r)) (remember own h c.args.value) h ≡ h =
    elim c.else-not-is_empty.branch [
      | else-not-is_empty-via-then-not-is_empty+else-is_old w ↦
          cond-false (is_old_object (object_at h r)) _ h (sym w.is_old.ensures ∙ w.if-is_old.false)
      | else-not-is_empty-via-else-not-is_empty w ↦
          noted-none own r c.args.value covers (c.is_empty.ensures w.if-not-is_empty.false)
    ] in
    ap (λ (g : Heap). record c.args.self.now { heap = g }) (sym same)
