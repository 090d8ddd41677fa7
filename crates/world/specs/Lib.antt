pub mod Reached
pub mod States
pub mod Shown
pub mod Listed
pub mod Faults
pub use Rattle.complete_laws.specs.of_tree_laws as of_tree_laws
pub use Rattle.complete_laws.specs.of_row_laws as of_row_laws
