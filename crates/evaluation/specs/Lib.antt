pub mod Plan
pub mod Steps
pub mod Cells
pub mod Theorems
