pub mod Splits
pub mod NumberTexts
pub mod Digits
pub mod HexWords
mod SiteLists
pub mod CallForms
mod EventForms
mod HeaderForms
mod Answered
mod ReaderSteps
pub mod OneReading
