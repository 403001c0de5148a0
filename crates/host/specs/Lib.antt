pub mod MatchBytes
pub mod Searchers
pub mod Misses
pub mod Outcomes
pub mod Answer
