use Rattle.std.proofs.Common.{refl}
use Rattle.codec.proofs.Readers.{both_read, joined_read, made}
use Rattle.image_parts.specs.Grammar.{lists_format, stored_format}
use Rattle.image_parts.proofs.reading.read_stored.Goals as goal

pub returns : goal.returns
unfolding stored_format lists_format
returns c = record {
  value = made _ _
      (joined_read (lists_format c.args.wide c.args.version) c.read_front-ring.ensures
      (both_read c.in_ok-reports.ensures.value
      (both_read c.in_ok-slots.ensures.value c.in_ok-asked.ensures.value)))
      (rw c.from_vec.ensures.items refl);
  refused = tt;
}
