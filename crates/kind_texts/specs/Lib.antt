pub mod Margin
pub mod Words
pub mod Zones
pub mod Pieces
