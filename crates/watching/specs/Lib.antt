pub mod Faults
pub mod Memory
pub mod Refusals
pub mod Calls
