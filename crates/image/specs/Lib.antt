pub mod Images
pub mod Nodes
pub mod Conditions
pub mod Wholes
pub mod Logged
pub mod Saving
