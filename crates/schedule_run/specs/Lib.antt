pub mod Standing
pub mod Opened
pub mod Tree
pub use Rattle.world.specs as of_world
