pub mod Ledgers
pub mod Writings
