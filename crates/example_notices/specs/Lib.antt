pub mod Notices
pub mod Numbers
