pub mod Rules
pub mod Reading
pub mod Promise
