use Rattle.model.specs.Heaps.{remembering}
use Rattle.heap.proofs.Flags.{remembered-is}
use Rattle.heap.proofs.Writes.{IsStored, rewritten-stored, absent-stored}
use Rattle.heap.proofs.heap.Heap.remember_one.Goals.{in-Some, in-None}
use Rattle.heap.proofs.heap.Heap.remember_one.Goals as goal

pub invariant_of-self : goal.invariant_of-self
invariant_of-self c =
    elim c.match-get_mut.branch [
      | in-Some w ↦
          let stored : IsStored c.self.inside c.args.object c.key.result w.in-Some.object.now =
          record { name = c.key.ensures; there = w.in-Some.ensures.value } in
          rw (w.self-inside-is) (remembered-is _ stored w.remember.ensures c.self.invariant)
      | in-None w ↦ rw (w.self-inside-is) c.self.invariant
    ]

pub returns : goal.returns
returns c =
    let h = c.self.inside in
    let r = c.args.object in
    let name = c.key.ensures in
    elim c.match-get_mut.branch [
      | in-Some w ↦
          let stored : IsStored h r c.key.result w.in-Some.object.now =
          record { name = name; there = w.in-Some.ensures.value } in
          let done = rewritten-stored h r _ remembering _ _ stored w.remember.ensures in
          rw (w.self-inside-is, ← c.self.view_is) done
      | in-None w ↦
          let done = absent-stored h r _ remembering name w.in-None.ensures.value in
          rw (w.self-inside-is, ← c.self.view_is) done
    ]
