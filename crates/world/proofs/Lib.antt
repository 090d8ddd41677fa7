pub mod Tables
pub mod Changes
pub mod Events
pub mod Acting
pub mod Over
pub mod Asking
pub mod Letters
pub mod Rounds
pub mod First
pub mod LineLaws
pub mod Reading
pub mod Pending
pub mod Versions
pub mod Wanting
pub use Rattle.complete_laws.proofs.of_rest_laws as of_rest_laws
pub use Rattle.complete_laws.proofs.of_row_laws as of_row_laws
