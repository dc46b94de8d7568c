pub mod Walks
pub mod Posts
pub mod Options
pub mod Front
pub mod Templates
pub mod Active
pub mod Site
pub mod Worked
