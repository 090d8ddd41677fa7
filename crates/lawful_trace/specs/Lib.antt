pub mod Places
pub mod Tables
pub mod Progress
pub mod Disks
pub mod SiteRows
pub mod TreeRows
pub mod CallRows
pub mod LineRows
pub mod Lawful
pub mod Growth
pub mod Calm
pub mod Orderly
pub mod Prompt
pub mod Keeps
pub mod Samples
pub use Rattle.call_rules.specs as of_call_rules
pub use Rattle.tree_model.specs as of_tree_model
pub use Rattle.tree_model.specs.of_dir_format as of_dir_format
pub use Rattle.tree_model.specs.of_dir_reconcile as of_dir_reconcile
pub use Rattle.tree_model.specs.of_file_effects as of_file_effects
