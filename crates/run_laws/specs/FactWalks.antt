pub mod Facts
pub mod Keeping
pub use Rattle.the_run.specs.Roles as Roles
