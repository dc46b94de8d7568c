pub mod Told
pub mod Lasting
