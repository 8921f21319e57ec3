-- Lemmas that functions name by `using`.
pub use Rattle.codec.proofs.Pieces.{gained, piece_written}
pub use Rattle.codec.proofs.Readers.{both_read, made, made_of, tested, tags}
pub use Rattle.codec.proofs.Writing.{both, behind}
