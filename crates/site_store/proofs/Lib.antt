mod Keeping
mod OtherOptions
mod UnderNames
mod Weights
mod Recency
mod Counts
pub mod SettingOptions
