pub mod Stores
pub mod Writes
pub mod Fitting
pub use Rattle.site_packs.specs as of_site_packs
