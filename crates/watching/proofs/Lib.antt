pub mod Passing
pub mod Taken
