pub mod Lines
pub mod Least
pub mod Worlds
pub mod Walk
pub mod Run
