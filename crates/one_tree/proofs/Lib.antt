pub mod Leading
pub mod Unfitting
