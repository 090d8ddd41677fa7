pub mod Accepting
pub mod Scripts
pub mod Serials
pub mod Waiting
pub mod Standing
pub mod Lines
pub mod Tree
