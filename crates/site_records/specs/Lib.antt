pub mod Ids
pub mod Texts
pub mod Digits
pub mod Dates
pub mod Sorted
pub mod Kinds
