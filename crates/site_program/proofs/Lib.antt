pub mod Pages
pub mod Carrying
pub mod Places
pub mod Staying
pub mod Refusals
pub mod Limits
pub mod Looks
