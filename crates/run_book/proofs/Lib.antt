pub mod Printing
pub mod Kept
pub mod Parts
pub mod PartLetters
