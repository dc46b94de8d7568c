pub mod Lasting
pub mod Counting
