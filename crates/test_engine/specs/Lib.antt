pub mod Tested
pub mod Asking
