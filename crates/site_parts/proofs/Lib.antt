pub mod Causes
pub mod Cuts
pub mod Working
pub mod StoreParts
pub mod Mendings
pub mod Reported
pub mod Numbers
pub mod Fits
pub use Rattle.run_laws.proofs as of_run_laws
pub use Rattle.site_mends.proofs.of_site_tables as of_site_tables
