use Rattle.image_parts.proofs.Readings.{image_read, rest_read}
use Rattle.image_parts.proofs.reading.read_image.Goals as goal

pub returns : goal.returns
returns c = record {
  value = image_read (rest_read c.read_start-layout.result c.is_wide.ensures c.widths.ensures
      c.in_ok-parts.ensures.value)
      c.read_start-layout.ensures;
  refused = tt;
}
