use Rattle.model.specs.Heaps.{sharing}
use Rattle.heap.proofs.Flags.{shared-is}
use Rattle.heap.proofs.Writes.{IsStored, rewritten-stored}
use Rattle.heap.proofs.heap.Heap.share_one.Goals as goal

pub invariant_of-self : goal.invariant_of-self
invariant_of-self c =
    let stored : IsStored c.self.inside c.args.object c.key.result c.in-Some.stored.now =
    record { name = c.key.ensures; there = c.in-Some.ensures.value } in
    shared-is _ stored c.share.ensures c.note.ensures c.self.invariant

pub returns-then-not-is_shared : goal.returns-then-not-is_shared
returns-then-not-is_shared c =
    let stored : IsStored c.self.inside c.args.object c.key.result c.in-Some.stored.now =
    record { name = c.key.ensures; there = c.in-Some.ensures.value } in
    rw (← c.self.view_is)
    (rewritten-stored c.self.inside c.args.object _ sharing _ _ stored c.share.ensures)
