use Rattle.std.proofs.Common.{set, refl}
use Rattle.model.specs.State.{Object}
use Rattle.heap.proofs.Writes.{IsStored, rewritten-stored, absent-stored, placeless-stored}
use Rattle.heap.proofs.Flags.{status_of, written-is}
use Rattle.std.proofs.Common.{ap}
use Rattle.heap.proofs.heap.Heap.write_place.Goals.{in-Some, in-None}
use Rattle.heap.proofs.heap.Heap.write_place.Goals as goal

pub returns-clause-done : goal.returns-clause-done
returns-clause-done c =
    let h = c.self.inside in
    let r = c.args.object in
    let name = c.key.ensures in
    let f = λ (o : Object). record o { places = set o.places c.args.place c.args.value } in
    elim c.match-get_mut.branch [
      | in-Some w ↦
          let stored : IsStored h r c.key.result w.in-Some.object.now =
          record { name = name; there = w.in-Some.ensures.value } in
          let done = rewritten-stored h r _ f _ _ stored w.set_place.ensures.done in
          rw (w.self-inside-is, ← c.self.view_is) done
      | in-None w ↦
          let done = absent-stored h r _ f name w.in-None.ensures.value in
          rw (w.self-inside-is, ← c.self.view_is) done
    ]

pub returns-clause-unchanged : goal.returns-clause-unchanged
returns-clause-unchanged c =
    let h = c.self.inside in
    let done = returns-clause-done c in
    elim c.match-get_mut.branch [
      | in-Some w ↦
          let stored : IsStored h c.args.object c.key.result w.in-Some.object.now =
          record { name = c.key.ensures; there = w.in-Some.ensures.value } in
          let kept = placeless-stored h c.args.object _ _ c.args.place c.args.value stored in
          rw (w.result-is, w.set_place.ensures.answer, done, ← c.self.view_is) kept
      | in-None w ↦ rw (w.result-is, w.self-inside-is, ← c.self.view_is) refl
    ]

pub invariant_of-self : goal.invariant_of-self
invariant_of-self c =
    elim c.match-get_mut.branch [
      | in-Some w ↦
          let stored : IsStored c.self.inside c.args.object c.key.result w.in-Some.object.now =
          record { name = c.key.ensures; there = w.in-Some.ensures.value } in
          rw (w.self-inside-is) (written-is _ stored (ap status_of w.set_place.ensures.done)
          c.self.invariant)
      | in-None w ↦ rw (w.self-inside-is) c.self.invariant
    ]
