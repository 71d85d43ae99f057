pub mod Trees
pub mod Watchers
pub mod ShutOut
pub mod Cases
