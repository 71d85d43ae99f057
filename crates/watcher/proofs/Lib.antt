pub mod Makings
pub mod Givings
pub mod Published
