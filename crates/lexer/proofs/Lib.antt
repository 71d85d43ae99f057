pub mod Pieces
pub mod Items
