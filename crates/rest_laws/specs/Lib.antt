pub mod EpochTreeWaiting
pub mod EpochTreeStarting
pub mod EpochTreeReporting
pub mod EpochTreeCounting
pub mod TableNarrow
pub mod MadeResting
pub mod MendStepCounting
pub mod StoreStepKnown
pub mod StoreStepSteps
pub mod AdoptionMending
pub mod Counters
pub mod Asking
pub mod Caching
pub mod CopiesKept
pub mod Fits
pub use Rattle.store_laws.specs as of_store_laws
pub use Rattle.store_laws.specs.of_row_laws as of_row_laws
pub use Rattle.store_laws.specs.of_tree_laws as of_tree_laws
pub use Rattle.store_laws.specs.of_site_laws as of_site_laws
pub use Rattle.store_laws.specs.of_run_laws as of_run_laws
