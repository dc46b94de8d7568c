pub mod Numbers
pub mod Paths
pub mod Months
pub mod Found
pub mod Worked
