pub mod Alone
pub mod Homes
pub mod Syncing
