pub mod Boots
pub mod Outcomes
pub mod Forming
pub mod Pulls
pub mod Packets
pub mod Steps
pub mod Run
pub use Rattle.the_run.proofs.Roles as Roles
