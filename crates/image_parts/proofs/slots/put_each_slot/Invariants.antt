use Rattle.std.proofs.Common.{map, take}
use Rattle.codec.specs.Writing.{PutsAll}
use Rattle.frames.specs.declared.version.Version.TheVariants.{Second}
use Rattle.image_parts.specs.Grammar.{slot_format}
use Rattle.image_parts.specs.Stored.{stored_slot}
use Rattle.image_parts.proofs.slots.put_each_slot.Given as goal

abbrev pub invariant-loop-slot : goal.invariant-loop-slot
invariant-loop-slot l =
    PutsAll (slot_format l.wide Second) l.initial.out l.out
    (take l.slot (map stored_slot l.heap.heap.slots))
