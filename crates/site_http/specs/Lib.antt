pub mod Ahead
pub mod Pages
