pub mod Printed
pub mod Calls
pub mod Serials
pub mod Past
pub mod Instances
pub mod Following
pub mod Deltas
pub mod Packets
pub mod Users
pub mod Stores
pub mod Tables
pub mod Frames
pub mod Processes
pub mod Holding
pub mod Doing
pub mod Caches
pub mod Orders
pub mod Syncs
pub use Rattle.lawful_trace.specs as of_lawful_trace
pub use Rattle.the_run.specs as of_the_run
pub use Rattle.the_run.specs.of_role_steps as of_role_steps
