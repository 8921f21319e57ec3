-- Elements of lists have at least one byte.
use Rattle.std.proofs.Common.{zero-le, suc-le-suc, Some, None}
use Rattle.codec.specs.Reading.{IsLong}
use Rattle.frames.specs.declared.version.Version.{Version}
use Rattle.frames.specs.Formats.{reference, optional}

pub reference_long : (v : Version) → IsLong (reference v)
unfolding reference
reference_long v r = suc-le-suc zero-le

pub optional_long : (v : Version) → IsLong (optional v)
unfolding optional
optional_long v None = suc-le-suc zero-le
optional_long v (Some r) = suc-le-suc zero-le
