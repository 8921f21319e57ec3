pub mod Laws
pub mod Numbers
pub mod Runs
pub mod Growing
pub mod Writing
pub mod Wholes
pub mod Readers
pub mod Pieces
