pub mod Runs
pub mod Events
pub mod Growing
pub mod Rows
pub mod Premises
pub mod SyncWalks
pub mod RoleWalks
pub mod Roles
pub mod SiteWalks
pub mod StepSends
pub mod Boots
pub mod FirstWorld
pub mod InsideSync
pub mod InsideRoles
pub mod Joining
pub mod InsideSites
pub mod JoinHandlers
pub mod OneList
pub use Rattle.role_steps.proofs as of_role_steps
pub use Rattle.role_steps.proofs.of_plain_facts as of_plain_facts
