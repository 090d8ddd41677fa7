pub mod Leaving
pub mod Booting
pub mod Turning
pub mod Rests
