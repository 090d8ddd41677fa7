pub mod Pieces
pub mod Stages
pub mod Tearing
pub mod Gates
