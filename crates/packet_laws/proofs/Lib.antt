pub mod Fitting
pub mod Values
pub mod Formats
pub mod Reaching
pub use Rattle.run_laws.proofs as of_run_laws
pub use Rattle.rest_laws.proofs as of_rest_laws
pub use Rattle.rest_laws.proofs.of_site_laws as of_site_laws
pub use Rattle.rest_laws.proofs.of_store_laws as of_store_laws
pub use Rattle.rest_laws.proofs.of_row_laws as of_row_laws
