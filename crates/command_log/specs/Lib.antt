pub mod Table
pub mod Faults
pub mod Lines
pub mod Inside
pub mod Found
pub mod Testing
pub mod Digests
