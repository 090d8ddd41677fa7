pub mod Words
pub mod Standing
pub mod Naming
pub mod Boots
pub mod Walks
pub mod Epochs
pub mod FactWalks
pub use Rattle.schedule_lines.specs as of_schedule_lines
pub use Rattle.the_run.specs as of_the_run
pub use Rattle.the_run.specs.of_role_steps as of_role_steps
pub use Rattle.wire_messages.specs as of_wire_messages
pub use Rattle.the_run.specs.of_call_rules as of_call_rules
