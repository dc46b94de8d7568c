pub mod LineLists
pub mod Histories
pub mod Journals
pub mod Newlines
mod Stretches
mod Endings
mod Settling
pub mod Kept
