pub mod Reading
pub mod Layers
pub mod Keeping
pub mod Nests
pub mod Holding
pub mod Looking
pub mod Twinned
