pub mod Rising
pub mod Places
pub use Rattle.role_steps.specs as of_role_steps
