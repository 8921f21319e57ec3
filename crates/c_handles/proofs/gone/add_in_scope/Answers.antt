use Rattle.std.proofs.Common.{◌≡◌, false, arith, subst}
use Rattle.model.specs.Searching.{is_sought}
use Rattle.model.specs.State.{Heap, slot_at}
use Rattle.c_handles.proofs.Entries.{listing_jump, listing_none, listing_one}
use Rattle.c_handles.proofs.Frees.{unsought}
use Rattle.c_handles.proofs.gone.add_in_scope.Goals as goal

pub loop-slot-init : goal.loop-slot-init
loop-slot-init c =
    let next = c.next_sought-slot.ensures in
    let h = c.args.core.now.local.heap in
    record {
      lists = listing_none c.next_sought-slot.result (omega arith) next.bounds.1
          (λ j from to.
          unsought c.args.scope (slot_at h j)
          (subst (λ (g : Heap). is_sought c.args.scope (slot_at g j) ≡ false)
          c.heap-2.ensures.value
          (next.skips j from to)));
      within = next.bounds.1;
    }

pub loop-slot-preserved : goal.loop-slot-preserved
loop-slot-preserved c =
    let before = c.loop-slot.invariant in
    let next = c.next_sought-slot-in-loop-slot.ensures in
    let h = c.args.core.now.local.heap in
    record {
      lists = listing_jump
          (listing_one before.lists (omega (arith, c.loop-slot-test.true))
          c.in_ok-add_if_in_scope.ensures.added)
          c.next_sought-slot-in-loop-slot.result next.bounds.0 next.bounds.1
          (λ j from to.
          unsought c.args.scope (slot_at h j)
          (subst (λ (g : Heap). is_sought c.args.scope (slot_at g j) ≡ false)
          c.heap-in-loop-slot.ensures.value (next.skips j from to)));
      within = next.bounds.1;
    }
