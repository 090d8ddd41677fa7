pub mod Few
pub mod Each
pub mod ByKind
pub mod Boots
pub mod JoinSteps
pub mod Joins
pub mod JoinTexts
