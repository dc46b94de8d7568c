pub mod Mapped
pub mod Repeats
pub mod Owners
pub mod Choosing
pub mod InOrder
pub mod Sorting
mod Walks
