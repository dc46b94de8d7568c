pub mod Compacted
pub mod Identity
pub mod Started
