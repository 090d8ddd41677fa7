pub mod Vectors
pub mod Locks
pub mod Packs
pub mod Makes
pub mod Kept
pub use Rattle.run_laws.proofs as of_run_laws
pub use Rattle.run_laws.proofs.of_the_run as of_the_run
pub use Rattle.run_laws.proofs.of_role_steps as of_role_steps
