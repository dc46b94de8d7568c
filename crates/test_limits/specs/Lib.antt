pub mod Climbing
pub mod Inactive
pub mod Switched
