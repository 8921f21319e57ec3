-- What codec proves about values that are written, and read, one after another.
pub use Rattle.codec.proofs.Writing.{both, behind, first, unwritten, written_more}
pub use Rattle.codec.proofs.Pieces.{gained, piece_written}
pub use Rattle.codec.proofs.Readers.{both_read, made, made_of, tested, tags, lists, counted_read}
