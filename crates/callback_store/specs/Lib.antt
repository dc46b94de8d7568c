pub mod Shape
pub mod Faults
pub mod Sorting
