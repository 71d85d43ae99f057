pub mod Limits
pub mod Puts
pub mod Tops
