-- Lemmas that functions name by `using`.
pub use Rattle.codec.proofs.Pieces.{gained}
pub use Rattle.codec.proofs.Readers.{both_read, joined_read, made, passed}
pub use Rattle.packets.proofs.Lengths.{long_size, short_size}
