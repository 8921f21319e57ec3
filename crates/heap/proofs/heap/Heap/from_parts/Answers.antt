use Rattle.std.proofs.Common.{refl, arith}
use Rattle.heap.specs.Parts.{heap_given}
use Rattle.heap.proofs.Given.{Shows, slotted, born, sound_from}
use Rattle.heap.proofs.heap.Heap.from_parts.Goals as goal

pub returns-in-Ok-clause-sound : goal.returns-in-Ok-clause-sound
returns-in-Ok-clause-sound c =
    let sound = rw (c.deref.ensures.value, c.slots.ensures.value) at c.in-Ok.ensures.sound in
    let shows : Shows (heap_given c.args.parts) c.args.parts.slots.items c.args.parts.free.items =
    record { slots = refl; free = refl } in
    record {
      registers = omega arith;
      slots = slotted shows sound;
      born = born shows sound;
    }

pub returns-clause-refused : goal.returns-clause-refused
returns-clause-refused c =
    let shows : Shows (heap_given c.args.parts) c.args.parts.slots.items c.args.parts.free.items =
    record { slots = refl; free = refl } in
    let refused = rw (c.deref.ensures.value, c.slots.ensures.value) at c.in-Err.ensures.refused.1 in
    (refl, λ is. refused (sound_from shows (omega arith) is))
