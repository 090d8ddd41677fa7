pub mod Leaving
pub mod TableWalks
pub mod Untouched
pub use Rattle.the_run.proofs.Premises as Premises
pub use Rattle.the_run.proofs.SyncWalks as SyncWalks
pub use Rattle.the_run.proofs.RoleWalks as RoleWalks
pub use Rattle.the_run.proofs.SiteWalks as SiteWalks
pub use Rattle.the_run.proofs.FirstWorld as FirstWorld
