pub mod Few
pub mod Gauge
pub mod Lists
