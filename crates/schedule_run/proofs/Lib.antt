pub mod Growing
pub mod Lasting
pub mod Ending
pub mod Doing
pub mod Asking
pub mod OneAsking
pub mod Events
pub mod Complete
pub use Rattle.world.proofs as of_world
