pub mod Finding
pub mod Leaving
pub mod Reading
