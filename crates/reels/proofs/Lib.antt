pub mod Tests
pub mod Depth
pub mod Taken
pub mod Rests
pub mod Begins
