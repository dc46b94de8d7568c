pub mod WorkedCommands
pub mod GetLines
pub mod Named
