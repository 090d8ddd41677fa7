pub mod Shown
pub mod Inward
pub mod Events
pub mod ByLine
pub mod Rows
pub mod Voids
pub mod Course
pub mod Arms
pub mod Rest
pub mod Tales
pub mod Orderly
pub mod CallRows
pub mod OrderlyRows
pub mod Bounds
pub use Rattle.lawful_trace.specs as of_lawful_trace
pub use Rattle.site_laws.specs as of_site_laws
pub use Rattle.site_laws.specs.of_run_laws as of_run_laws
pub use Rattle.site_laws.specs.of_the_run as of_the_run
