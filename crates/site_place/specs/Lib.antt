pub mod Places
pub mod Counts
pub mod Views
pub mod Standing
pub mod Starts
pub mod Fitting
pub use Rattle.site_node.specs as of_site_node
pub use Rattle.site_packs.specs as of_site_packs
