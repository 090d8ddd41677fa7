pub mod Tabled
pub mod Leaving
