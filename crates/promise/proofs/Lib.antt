pub mod Feeding
pub mod Reached
pub mod Right
pub mod Shut
pub mod Makings
pub mod Worked
