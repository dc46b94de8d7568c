pub mod Stored
pub mod Further
pub mod Given
pub mod Through
