pub mod Past
pub mod Tree
pub mod After
pub mod Same
pub mod Rows
pub mod Traces
pub mod Stops
pub mod Lines
pub mod Headline
pub mod Beside
pub mod Progress
pub mod Convergence
pub use Rattle.lawful_trace.specs as of_lawful_trace
