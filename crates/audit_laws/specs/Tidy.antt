pub mod Sites
pub mod Epochs
pub mod Calls
pub mod Ties
pub mod Users
pub mod Steps
pub mod Tidy
