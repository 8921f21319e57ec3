pub mod Blocks
pub mod Growing
pub mod Heap
pub mod Parts
pub mod Objects
pub mod Payload
pub mod Stored
pub mod Tests
