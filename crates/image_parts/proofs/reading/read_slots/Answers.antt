use Rattle.codec.proofs.Readers.{both_read, counted_read}
use Rattle.image_parts.specs.Grammar.{slot_format, slots_format}
use Rattle.image_parts.proofs.reading.read_slots.Goals as goal

pub returns : goal.returns
unfolding slots_format
returns c = record {
  value = both_read
      (counted_read (slot_format c.args.wide c.args.version) c.u32-count.ensures
      c.in_ok-slots.ensures.value)
      (both_read c.in_ok-free.ensures.value c.in_ok-grey.ensures.value);
  refused = tt;
}
