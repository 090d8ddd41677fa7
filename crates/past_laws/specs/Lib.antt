pub mod Made
pub mod Firsts
pub mod Packed
pub mod Standing
pub mod Due
pub mod Agreement
pub mod Along
pub use Rattle.promises.specs as of_promises
