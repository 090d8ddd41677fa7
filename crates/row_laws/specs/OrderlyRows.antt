pub mod Fits
pub mod Agreeing
pub mod Leaving
