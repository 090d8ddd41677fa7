pub mod Written
pub mod Copies
pub mod Table
