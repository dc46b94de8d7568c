pub mod Building
pub mod Keeping
pub mod Moving
