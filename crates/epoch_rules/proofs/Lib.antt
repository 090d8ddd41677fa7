pub mod EachSite
pub use Rattle.role_steps.proofs as of_role_steps
pub use Rattle.role_steps.proofs.of_plain_facts as of_plain_facts
