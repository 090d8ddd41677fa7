pub mod Sizes
pub mod Sites
