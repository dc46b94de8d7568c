pub mod Telling
pub mod Lasting
