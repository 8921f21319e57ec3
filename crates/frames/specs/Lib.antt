pub mod Decoding
pub mod Formats
pub mod Grammar
pub mod Heads
pub mod Lengths
pub mod Numbers
