pub mod Nests
pub mod Evaluating
pub mod Kept
pub mod Starting
pub mod Rooms
pub mod Giving
