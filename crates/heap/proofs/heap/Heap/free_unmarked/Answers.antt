use Rattle.std.proofs.Common.{sym, ◌∙◌}
use Rattle.model.specs.State.{slot_at}
use Rattle.model.specs.Collecting.{is_garbage}
use Rattle.heap.specs.Stored.{view_of}
use Rattle.heap.proofs.Flags.{discarded-is}
use Rattle.heap.proofs.Frees.{discards, freed-none, garbage-goes}
use Rattle.heap.proofs.heap.Heap.free_unmarked.Goals as goal

pub invariant_of-self : goal.invariant_of-self
invariant_of-self c = rw c.discard.ensures.done (discarded-is c.args.slot c.self.invariant)

pub returns-then-is_garbage-clause-done : goal.returns-then-is_garbage-clause-done
returns-then-is_garbage-clause-done c freed =
    let h = c.self.inside in
    let found = sym c.is_garbage.ensures ∙ c.if-is_garbage.true in
    let goes = garbage-goes c.args.cycle (slot_at (view_of h).heap c.args.slot)
    (rw (← c.self.view_is) at found) in
    rw (c.discard.ensures.done, c.discard.ensures.there, ← c.self.view_is)
    (discards (λ _. is_garbage c.args.cycle) h c.args.slot freed goes)

pub returns-else-is_garbage-clause-done : goal.returns-else-is_garbage-clause-done
returns-else-is_garbage-clause-done c freed =
    let h = c.args.self.now.heap in
    let kept = sym c.is_garbage.ensures ∙ c.if-is_garbage.false in
    rw c.if-is_garbage.false (freed-none (λ _. is_garbage c.args.cycle) h c.args.slot freed kept)
