pub mod EveryRun
pub mod Begun
pub mod News
pub mod Texts
pub use Rattle.headline_laws.proofs as of_headline_laws
