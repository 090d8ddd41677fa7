pub mod Lookups
pub mod Ancestors
pub mod Told
pub mod Order
pub mod Keeping
pub mod Beside
pub mod Tops
