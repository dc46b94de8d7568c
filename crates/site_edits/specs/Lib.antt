pub mod Carried
pub mod Edits
pub mod Imports
pub mod Late
pub mod Templates
