pub mod FlatWalks
pub mod Places
pub mod Three
