pub mod Lasting
pub mod Rebuilt
