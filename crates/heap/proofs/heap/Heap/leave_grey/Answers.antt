use Rattle.std.proofs.Common.{ℕ, List, ap, rules}
use Rattle.std.proofs.lemmas.Fn.{filter_same}
use Rattle.model.specs.State.{Heap, slot_at}
use Rattle.model.specs.Reclaiming.{is_occupied}
use Rattle.heap.specs.Stored.{view_of}
use Rattle.heap.proofs.heap.Heap.leave_grey.Goals as goal

pub returns-clause-done : goal.returns-clause-done
returns-clause-done c =
    let h : Heap = (view_of c.self.inside).heap in
    let left = filter_same _ (λ (k : ℕ). is_occupied (slot_at h k)) _
    (λ x b f' k. search rules) _ _ c.retain.ensures.filtered in
    rw (← c.self.view_is) (ap (λ (ks : List ℕ). record h { grey = ks }) left)
