pub mod Searched
pub mod Placed
pub use Rattle.role_steps.proofs.of_plain_facts as of_plain_facts
