pub mod Vectors
pub mod Locks
pub mod Packs
pub mod Makes
pub mod Kept
pub use Rattle.run_laws.specs as of_run_laws
pub use Rattle.run_laws.specs.of_schedule_lines as of_schedule_lines
pub use Rattle.run_laws.specs.of_the_run as of_the_run
pub use Rattle.conflict_flags.specs as of_conflict_flags
pub use Rattle.run_laws.specs.of_call_rules as of_call_rules
pub use Rattle.run_laws.specs.of_role_steps as of_role_steps
