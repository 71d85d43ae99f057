pub mod Ends
pub mod Word
