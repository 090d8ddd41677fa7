pub mod Operated
pub mod Numbered
pub mod Given
pub mod Changed
pub mod Kept
pub mod Roomless
pub mod Unfitting
