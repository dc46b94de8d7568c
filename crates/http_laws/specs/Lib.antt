pub mod Ends
pub mod Alone
pub mod Reading
