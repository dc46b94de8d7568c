pub mod Agree
pub mod Ending
pub mod Folding
pub mod Rows
pub mod Registered
pub mod Throughout
pub mod Built
pub mod Walk
pub mod Giving
pub mod Seen
pub mod Isolated
mod TwoBundles
