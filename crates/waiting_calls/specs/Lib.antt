pub mod Called
pub mod Numbered
pub mod Rows
pub mod Steps
