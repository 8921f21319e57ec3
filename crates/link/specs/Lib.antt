pub mod Early
pub mod Links
pub mod Ends
pub mod Parts
