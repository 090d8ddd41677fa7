pub mod Regular
pub mod Keeping
pub mod Tables
