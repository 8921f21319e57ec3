pub mod Asked
pub mod RefSet
