pub mod Forming
pub mod Known
