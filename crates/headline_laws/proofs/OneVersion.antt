pub mod Stood
pub mod Asks
pub mod Granted
pub mod Right
pub mod Keeping
pub mod Bytes
pub mod Refusing
pub mod Law
