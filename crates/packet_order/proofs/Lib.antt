pub mod Placing
pub mod Spelled
pub mod Parts
pub mod Ascending
