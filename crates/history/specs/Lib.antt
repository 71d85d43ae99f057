pub mod Moments
pub mod Value
pub mod Calls
pub mod Theorems
pub mod Example
