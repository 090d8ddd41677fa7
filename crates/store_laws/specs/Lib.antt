pub mod Aside
pub mod Rests
pub mod Pulling
pub mod StoragePlain
pub mod Holdings
pub mod Works
pub mod Users
pub mod OneTree
pub use Rattle.tree_laws.specs as of_tree_laws
pub use Rattle.stored_versions.specs as of_stored_versions
pub use Rattle.row_laws.specs as of_row_laws
pub use Rattle.row_laws.specs.of_site_laws as of_site_laws
pub use Rattle.row_laws.specs.of_run_laws as of_run_laws
