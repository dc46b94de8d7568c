pub mod Tree
pub mod Asked
pub mod Worked
pub mod GetLine
