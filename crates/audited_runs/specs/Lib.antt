pub mod Answered
pub use Rattle.headline_laws.specs as of_headline_laws
