pub mod Draws
pub mod Pieces
