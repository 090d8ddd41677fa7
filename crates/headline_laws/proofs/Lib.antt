pub mod Comes
pub mod Texts
pub mod Whole
pub mod WholeRuns
pub mod StopRuns
pub mod Prompting
pub mod Promises
pub mod StopPromises
pub mod HeadlinePromises
pub mod Boxes
pub mod OneVersion
pub use Rattle.row_laws.proofs as of_row_laws
pub use Rattle.rest_laws.proofs as of_rest_laws
pub use Rattle.rest_laws.proofs.of_store_laws as of_store_laws
pub use Rattle.rest_laws.proofs.of_tree_laws as of_tree_laws
pub use Rattle.calm_laws.proofs as of_calm_laws
