pub mod NewTexts
