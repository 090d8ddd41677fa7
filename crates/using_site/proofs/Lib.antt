pub mod Again
pub mod Asked
pub mod Awaited
pub mod Calling
pub mod Going
pub mod Hearing
pub mod Replies
pub mod Taken
