pub mod Trees
pub mod Worked
