pub mod Mends
pub mod Wanted
pub mod Live
pub mod Fits
pub mod Directories
pub mod Counters
pub mod Resting
pub use Rattle.site_tables.proofs as of_site_tables
