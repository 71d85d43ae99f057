pub mod Room
pub mod Own
pub mod Shut
pub mod Sides
pub mod Nestings
pub mod Keeping
