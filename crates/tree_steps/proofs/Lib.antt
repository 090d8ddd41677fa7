pub mod Counting
pub mod Refusing
pub mod Rooms
pub mod Bringing
pub mod Spent
