pub mod PlaceLemmas
pub mod LiveLemmas
pub mod MatchLemmas
pub mod PieceLemmas
pub mod MemoryLemmas
pub mod SpanLemmas
mod OpenedLemmas
pub mod PlainLemmas
