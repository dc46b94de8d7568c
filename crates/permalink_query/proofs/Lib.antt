pub mod LossyLemmas
pub mod MonthLemmas
pub mod DateOrder
pub mod MonthDates
pub mod Spans
