pub mod Truth
pub mod ByPlace
pub mod Reversed
