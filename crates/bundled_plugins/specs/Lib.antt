pub mod Calls
pub mod Replies
pub mod Bundle
pub mod Rows
pub mod Program
pub mod Beside
