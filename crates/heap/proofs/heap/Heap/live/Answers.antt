use Rattle.std.proofs.Common.{refl}
use Rattle.heap.specs.Stored.{view_of}
use Rattle.heap.proofs.Given.{Shows, born}
use Rattle.heap.proofs.heap.Heap.live.Goals as goal

pub returns-clause-born : goal.returns-clause-born
returns-clause-born c =
    let h = c.self.inside in
    let shows : Shows (view_of h).heap h.objects.slots h.objects.free =
    record { slots = refl; free = refl } in
    rw (← c.self.view_is) (born shows c.len.ensures.sound)
