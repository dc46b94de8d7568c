pub mod Lists
pub mod Steps
pub mod Casting
pub mod SortLemmas
pub mod Answering
pub mod Deleting
