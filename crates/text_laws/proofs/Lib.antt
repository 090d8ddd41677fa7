pub mod Records
pub mod VersionTexts
pub mod CallTexts
pub mod TreeTexts
pub mod NewTexts
pub mod FewKept
pub use Rattle.rest_laws.proofs as of_rest_laws
