pub mod Words
pub mod Hows
