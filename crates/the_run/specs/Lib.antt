pub mod Steps
pub mod Disks
pub mod Worlds
pub mod Runs
pub mod Commands
pub mod Asking
pub mod Kept
pub mod Laws
pub mod Joins
pub mod Kinds
pub mod KindLaws
pub mod Roles
pub use Rattle.disk_calls.specs.of_schedule_lines as of_schedule_lines
pub use Rattle.role_steps.specs as of_role_steps
pub use Rattle.role_steps.specs.of_call_rules as of_call_rules
pub use Rattle.role_steps.specs.of_commit_graph as of_commit_graph
pub use Rattle.role_steps.specs.of_file_effects as of_file_effects
pub use Rattle.role_steps.specs.of_wire_messages as of_wire_messages
pub use Rattle.role_steps.specs.of_trace_book as of_trace_book
