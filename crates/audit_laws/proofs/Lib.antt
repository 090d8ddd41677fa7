pub mod Meanings
pub mod Known
pub mod Inputs
pub mod Tidy
pub mod Turns
