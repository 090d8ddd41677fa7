pub mod Roles
pub mod Framing
pub mod Faults
pub mod Writing
pub mod Fitting
pub use Rattle.site_mends.specs as of_site_mends
pub use Rattle.site_mends.specs.of_site_tables as of_site_tables
pub use Rattle.site_mends.specs.of_using_site as of_using_site
pub use Rattle.storage_site.specs as of_storage_site
