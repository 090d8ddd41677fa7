pub mod Shown
pub mod Rows
pub mod Asked
pub mod Uses
pub mod Waiting
pub mod Indexed
