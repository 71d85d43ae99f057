pub mod Steps
pub mod Ways
pub mod Whole
pub mod Shut
pub mod Trees
pub mod Listing
