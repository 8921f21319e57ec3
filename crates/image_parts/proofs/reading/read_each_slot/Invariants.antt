use Rattle.std.proofs.Common.{◌≡◌, ◌-◌, length}
use Rattle.codec.proofs.Readers.{ReadsFirst}
use Rattle.image_parts.specs.Grammar.{slot_format}
use Rattle.image_parts.proofs.reading.read_each_slot.Given as goal

abbrev pub invariant-loop-slot : goal.invariant-loop-slot
invariant-loop-slot l = record {
  read : ReadsFirst (slot_format l.wide l.version) l.reader l.ahead l.slots.items
      (l.count - l._slot) l.count;
  count : length l.slots.items ≡ l._slot;
  most : l.slots.capacity ≡ l.count;
}
