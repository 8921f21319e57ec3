pub mod Opened
pub mod Closing
pub mod Teams
pub mod Spaces
pub mod Reviving
pub mod Settings
