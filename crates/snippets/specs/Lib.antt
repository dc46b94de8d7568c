pub mod Places
pub mod Templates
pub mod Pieces
pub mod Snippets
pub mod Markup
