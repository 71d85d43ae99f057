pub mod Making
pub mod Giving
pub mod Published
