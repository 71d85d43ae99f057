pub mod Sources
pub mod Drafting
pub mod Plans
pub mod Facts
pub mod Listing
