pub mod Settling
pub mod Joinable
pub use Rattle.role_steps.specs as of_role_steps
