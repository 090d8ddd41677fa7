pub mod Mending
pub mod Scanning
pub mod Resting
pub use Rattle.site_tables.specs as of_site_tables
pub use Rattle.site_tables.specs.of_using_site as of_using_site
