pub mod Walks
pub mod Ids
pub mod Texts
pub mod WorkedFiles
