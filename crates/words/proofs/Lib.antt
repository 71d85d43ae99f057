pub mod Spelling
pub mod Lookup
mod Reading
