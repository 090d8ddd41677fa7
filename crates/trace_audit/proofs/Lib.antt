pub mod Taking
pub mod Standing
pub mod Premises
pub mod Once
pub mod TreeSteps
