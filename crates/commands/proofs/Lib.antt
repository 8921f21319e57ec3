pub mod FirstLines
pub mod Printing
pub mod Replies
pub mod Sizes
