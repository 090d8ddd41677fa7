pub mod Packs
pub mod Rows
pub mod Standing
pub mod Run
