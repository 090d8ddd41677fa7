pub mod Words
pub mod Numerals
pub mod CallReader
pub mod EventReader
pub mod HeaderReader
pub mod Reading
pub mod ReadSoFar
