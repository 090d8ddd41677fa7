pub mod Paths
pub mod Words
pub mod Descriptors
pub mod Walks
pub mod Closing
pub mod Making
pub mod Removing
pub mod Naming
pub mod Opening
pub mod Reopening
pub mod Mending
pub mod Mailing
pub mod Scripts
pub mod Samples
pub use Rattle.commit_graph.specs as of_commit_graph
