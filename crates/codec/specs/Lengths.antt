-- Numbers have at least one byte.
use Rattle.std.proofs.Common.{zero-le, suc-le-suc}
use Rattle.codec.specs.Formats.{number4, number8}
use Rattle.codec.specs.Reading.{IsLong}

pub number4_long : IsLong number4
unfolding number4
number4_long n = suc-le-suc zero-le

pub number8_long : IsLong number8
unfolding number8
number8_long n = suc-le-suc zero-le
