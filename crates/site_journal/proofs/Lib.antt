pub mod Committing
pub mod Flushing
pub mod Taking
