pub mod Acts
pub mod Found
pub mod Rooms
