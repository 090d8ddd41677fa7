pub mod Noting
pub mod Splitting
pub mod Tops
pub mod Parting
pub mod Having
pub mod ByFile
pub use Rattle.past_laws.proofs as of_past_laws
