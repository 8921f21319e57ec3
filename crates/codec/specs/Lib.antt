pub mod Formats
pub mod Reading
pub mod Writing
pub mod Lengths
pub mod Readers
pub mod Pieces
