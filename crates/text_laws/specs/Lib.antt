pub mod Records
pub mod VersionTexts
pub mod CallTexts
pub mod TreeTexts
pub mod NewTexts
