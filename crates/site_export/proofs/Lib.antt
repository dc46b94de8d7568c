pub mod Printable
pub mod Texts
pub mod Batches
pub mod Steps
pub mod Lengths
