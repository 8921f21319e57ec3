use Rattle.std.proofs.Common.{◌+◌, ◌<◌, ⊎_elim, sym, ◌∙◌, arith}
use Rattle.model.specs.Searching.{Begins, sought}
use Rattle.model.proofs.Searching.{begins-skip, begins-next, begins-past, noted-was}
use Rattle.heap.proofs.Reclaims.{sought-slots}
use Rattle.heap.proofs.heap.Heap.find_shared.Goals.{then-is_sought_shared, else-is_sought_shared}
use Rattle.heap.proofs.heap.Heap.find_shared.Goals as goal

pub loop-slot-preserved : goal.loop-slot-preserved
loop-slot-preserved c =
    let old = c.loop-slot.invariant in
    let h = sought c.args.scope c.args.self.now.heap in
    let next = c.next_shared-slot-in-loop-slot.ensures in
    let width = sought-slots c.args.scope c.args.self.now.heap in
    let looked : Begins h (c.loop-slot.slot + 1) c.if-is_sought_shared.search =
    elim c.if-is_sought_shared.branch [
      | then-is_sought_shared w ↦
          rw (w.search-is, w.note.ensures)
          (begins-next old.begins (omega (arith, width))
          (sym c.is_sought_shared.ensures ∙ w.if-is_sought_shared.true))
      | else-is_sought_shared w ↦
          rw (w.search-is)
          (begins-skip old.begins (sym c.is_sought_shared.ensures ∙ w.if-is_sought_shared.false))
    ] in
    record {
      count = old.count;
      within = next.bounds.1;
      begins = begins-past looked c.next_shared-slot-in-loop-slot.result next.skips;
      before = λ k found.
          elim c.if-is_sought_shared.branch [
            | then-is_sought_shared w ↦
                ⊎_elim {C = k < c.next_shared-slot-in-loop-slot.result}
                (λ was. let before = old.before k was in omega (arith, before, next.bounds.0))
                (λ e. omega (arith, e, next.bounds.0))
                (noted-was c.loop-slot.search c.loop-slot.slot k
                (rw (w.search-is, w.note.ensures) at found))
            | else-is_sought_shared w ↦
                let before = old.before k (rw (w.search-is) at found) in
                omega (arith, before, next.bounds.0)
          ];
    }
