pub mod Rooms
pub mod Own
