pub mod Lists
pub mod Using
pub mod Making
pub mod Granting
pub mod Placing
pub mod Turns
