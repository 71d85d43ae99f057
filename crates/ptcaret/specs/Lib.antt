pub mod Traces
pub mod Satisfaction
pub mod Theorems
