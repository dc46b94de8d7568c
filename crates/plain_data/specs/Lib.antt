pub mod Steps
pub mod NameByte
pub mod Names
pub mod Texts
