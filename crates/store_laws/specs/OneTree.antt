pub mod Rest
pub mod Wants
pub mod Places
pub mod Roles
pub mod SpentMends
pub mod ToldVectorTelling
pub mod MakeCallMade
pub mod UserStepRests
