pub mod Copies
pub mod Rounds
pub mod Offers
pub mod Converging
pub mod Directories
pub mod Rested
pub mod Wanting
