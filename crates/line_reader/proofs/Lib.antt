pub mod Feeds
pub mod Lines
pub mod ReadLines
pub mod Readers
pub mod Told
pub mod Whole
pub mod Windows
