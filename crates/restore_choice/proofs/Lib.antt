pub mod Orders
pub mod Going
