pub mod Journaled
pub mod Lines
pub mod Served
pub mod Serving
pub mod Stretches
pub mod Kept
