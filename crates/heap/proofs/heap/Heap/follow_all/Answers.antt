use Rattle.std.proofs.Common.{◌≡◌, Bool, List, length, is_none, sym, ap, ◌∙◌, subst}
use Rattle.std.proofs.lemmas.List.{length-set}
use Rattle.model.specs.State.{Heap, slot_at}
use Rattle.model.specs.Reclaiming.{slot_aged}
use Rattle.model.specs.Searching.{Tells, sought}
use Rattle.model.proofs.Searching.{rooted-done}
use Rattle.heap.specs.Heap.{HeapView, aged_at}
use Rattle.heap.proofs.Growing.{Grows, IsNext, next-rooted, next-grows}
use Rattle.heap.proofs.heap.Heap.follow_all.Goals as goal

pub loop-slot-preserved : goal.loop-slot-preserved
loop-slot-preserved c =
    let old = c.loop-slot.invariant in
    let v : HeapView = c.loop-slot.self in
    let k = c.in-Some.slot in
    let g : Heap = c.grow_old.new.self.heap in
    let t = c.find_all.new.search in
    let next : IsNext c.loop-slot.search c.next.new.self k =
    record { found = c.next.ensures.found; last = c.in-Some.ensures.last } in
    let finds = rw (c.places_sought.ensures) at c.find_all.ensures in
    let gone : g ≡ aged_at v.heap k = ap (λ (z : HeapView). z.heap) c.grow_old.ensures in
    record {
      rooted = next-rooted old.rooted old.grows next finds;
      grows = subst (λ (z : Heap). Grows c.args.scope c.args.own c.args.self.now.heap z t)
          (sym gone)
          (next-grows old.rooted old.grows next finds);
      width = finds.width
          ∙ ap (λ (bs : List Bool). length bs) c.next.ensures.found
          ∙ old.width
          ∙ sym (length-set v.heap.slots k (slot_aged (slot_at v.heap k)))
          ∙ sym (ap (λ (z : Heap). length z.slots) gone);
      rest = c.grow_old.ensures
          ∙ ap (λ (z : Heap). record v { heap = z }) (sym gone)
          ∙ ap (λ (z : HeapView). record z { heap = g }) old.rest;
    }

pub returns-clause-tells : goal.returns-clause-tells
returns-clause-tells c =
    let none = c.next.ensures.none (ap is_none c.in_default.is) in
    subst (Tells c.args.own (sought c.args.scope c.args.self.now.heap)) (sym c.next.ensures.found)
    (rooted-done c.loop-slot.invariant.rooted none)
