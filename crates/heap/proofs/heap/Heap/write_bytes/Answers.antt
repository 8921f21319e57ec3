use Rattle.std.proofs.lemmas.Result.{on_ok_weaker}
use Rattle.model.specs.Heaps.{filling}
use Rattle.heap.proofs.Writes.{IsStored, rewritten-stored}
use Rattle.heap.proofs.Flags.{written-is, filled-status}
use Rattle.heap.proofs.heap.Heap.write_bytes.Goals as goal

pub returns-clause-done : goal.returns-clause-done
returns-clause-done c =
    let h = c.self.inside in
    let r = c.args.object in
    let stored : IsStored h r c.key.result c.in-Some.object.now =
    record { name = c.key.ensures; there = c.in-Some.ensures.value } in
    on_ok_weaker c.set_bytes.result (λ made.
    let done = rewritten-stored h r _ (filling c.args.bytes.now) _ _ stored made in
    rw (← c.self.view_is) done)
    c.set_bytes.ensures.done

pub invariant_of-self : goal.invariant_of-self
invariant_of-self c =
    let stored : IsStored c.self.inside c.args.object c.key.result c.in-Some.object.now =
    record { name = c.key.ensures; there = c.in-Some.ensures.value } in
    written-is _ stored
    (filled-status _ _ c.args.bytes.now c.set_bytes.result c.set_bytes.ensures.done
    c.set_bytes.ensures.unchanged)
    c.self.invariant
