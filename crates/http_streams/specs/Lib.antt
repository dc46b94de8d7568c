pub mod Deeds
pub mod Part
pub mod Tables
pub mod Taking
pub mod Ends
pub mod Losses
pub mod Frame
