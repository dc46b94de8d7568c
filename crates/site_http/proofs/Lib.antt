pub mod Calls
pub mod Following
