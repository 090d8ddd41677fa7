pub mod Printed
pub use Rattle.role_steps.specs as of_role_steps
