pub mod Latest
pub mod Given
pub mod Stays
pub mod Fits
pub mod Counts
pub mod Placing
pub mod Stepping
pub mod ShortAnswers
