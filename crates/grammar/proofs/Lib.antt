pub mod Counts
pub mod Walks
pub mod Rests
pub mod Begins
pub mod Outcome
