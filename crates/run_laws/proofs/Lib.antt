pub mod Telling
pub mod InsideSteps
pub mod Moves
pub mod Steps
pub mod Run
pub mod Rises
pub mod Boots
pub mod Walks
pub mod Epochs
pub mod FactWalks
pub use Rattle.the_run.proofs as of_the_run
pub use Rattle.the_run.proofs.of_role_steps as of_role_steps
pub use Rattle.the_run.proofs.of_plain_facts as of_plain_facts
