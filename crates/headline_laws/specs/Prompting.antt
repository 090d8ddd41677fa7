pub mod Given
pub mod Directly
pub mod Alone
pub mod Due
pub mod Wrong
pub mod Speaks
pub mod Places
pub mod Stops
