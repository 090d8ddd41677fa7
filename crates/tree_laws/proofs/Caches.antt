mod Lists
pub mod Staying
pub mod Finding
