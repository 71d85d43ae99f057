pub mod Limits
pub mod Faults
pub mod Lexemes
pub mod Grammar
pub mod Refusals
pub mod Nodes
pub mod Layout
pub mod Machine
