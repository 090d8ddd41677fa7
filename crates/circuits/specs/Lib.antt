pub mod Circuits
pub use Rattle.the_run.specs as of_the_run
