pub mod Changed
mod Lacking
pub mod Listing
pub mod Noted
