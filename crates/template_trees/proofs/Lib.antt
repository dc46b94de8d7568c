pub mod Walks
pub mod Shallow
pub mod WorkedTemplates
