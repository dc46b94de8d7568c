pub mod Places
pub mod Matches
pub mod Pieces
pub mod Spans
pub mod Live
pub mod Opened
pub mod Memory
pub mod Rows
