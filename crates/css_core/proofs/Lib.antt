pub mod Opened
pub mod Turns
pub mod Closings
pub mod Reported
pub mod Named
