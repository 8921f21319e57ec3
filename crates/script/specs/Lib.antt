pub mod Endings
pub mod Frames
pub mod Grammar
pub mod Operands
pub mod Readers
pub mod RunLines
pub mod Text
pub mod Words
