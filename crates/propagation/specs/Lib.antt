pub mod Sized
pub mod Choosing
