pub mod Reading
pub mod Inputs
pub mod Tidy
