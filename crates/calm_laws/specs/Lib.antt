pub use Rattle.calm_laws.specs.SentCalm.Standing
pub mod Carrying
pub mod Calming
pub mod Rounds
pub mod SentCalm
pub mod Pulls
pub mod TablesCalm
pub mod Convergence
pub use Rattle.rest_laws.specs as of_rest_laws
pub use Rattle.row_laws.specs as of_row_laws
pub use Rattle.run_laws.specs as of_run_laws
pub use Rattle.store_laws.specs as of_store_laws
pub use Rattle.site_laws.specs as of_site_laws
pub use Rattle.store_laws.specs.of_tree_laws as of_tree_laws
