pub mod Joining
pub mod Answering
