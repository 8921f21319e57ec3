-- The formats of numbers.
pub use Rattle.codec.specs.Formats.{number4, number8, signed8}
