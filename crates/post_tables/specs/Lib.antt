pub mod Schema
pub mod Rows
pub mod Faults
pub mod Page
pub mod Stored
pub mod Reading
pub mod Worked
pub mod Kept
