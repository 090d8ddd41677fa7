pub mod Walks
pub mod Choosing
pub mod Forming
pub mod StepForms
pub mod ByLine
pub mod Tracing
pub mod Asked
pub mod Causes
pub mod AskedRun
pub mod SitesGoOn
pub mod ArmsTraced
pub mod Scripts
pub mod Versions
pub mod ArmsRun
pub mod ArmsKept
pub mod Sum
pub mod SitesPlaced
pub mod Circuits
pub mod Voids
pub mod Tales
pub mod TalesKept
pub mod Fitting
pub mod Boots
pub mod Orderly
pub mod CallRows
pub mod OrderlyRows
pub mod Bounds
pub use Rattle.site_laws.proofs as of_site_laws
pub use Rattle.site_laws.proofs.of_run_laws as of_run_laws
pub use Rattle.site_laws.proofs.of_the_run as of_the_run
