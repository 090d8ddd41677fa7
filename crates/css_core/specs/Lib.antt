pub mod Lettered
pub mod Closed
pub mod Started
