-- The formats of numbers.
pub use Rattle.codec.specs.Formats.{number2, number4, number8}
