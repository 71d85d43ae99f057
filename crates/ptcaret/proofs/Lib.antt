pub mod Counts
pub mod Nested
pub mod Erasing
pub mod Cuts
pub mod Agreeing
pub mod Satisfying
