pub mod Lists
pub mod Same
pub mod Folds
pub mod Epochs
pub mod Packs
pub mod Histories
pub mod Calls
pub mod State
pub mod Mending
pub mod Working
pub mod Opening
pub mod Given
pub mod Tree
pub mod Files
pub use Rattle.dir_reconcile.specs.of_dir_format as of_dir_format
pub use Rattle.dir_reconcile.specs.of_version_vector as of_version_vector
pub use Rattle.file_effects.specs as of_file_effects
pub use Rattle.file_effects.specs.of_file_content as of_file_content
pub use Rattle.dir_reconcile.specs as of_dir_reconcile
