pub mod Leaving
pub mod Replaying
pub mod Stopping
