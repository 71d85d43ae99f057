pub mod Reels
pub mod Nesting
