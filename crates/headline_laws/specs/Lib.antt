pub mod Carried
pub mod TheRun
pub mod Rows
pub mod Replies
pub mod Commits
pub mod WholeRuns
pub mod StopRuns
pub mod Prompting
pub mod Promises
pub mod StopPromises
pub mod HeadlinePromises
pub mod Boxes
pub mod OneVersion
pub use Rattle.lawful_trace.specs as of_lawful_trace
pub use Rattle.promises.specs as of_promises
pub use Rattle.row_laws.specs as of_row_laws
pub use Rattle.tree_model.specs as of_tree_model
pub use Rattle.rest_laws.specs as of_rest_laws
pub use Rattle.rest_laws.specs.of_store_laws as of_store_laws
pub use Rattle.calm_laws.specs as of_calm_laws
