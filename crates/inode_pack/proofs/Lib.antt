pub mod Committed
pub mod Contents
pub mod CutCommit
pub mod FreeCounts
pub mod TableCounts
pub mod TablePlacing
pub mod TableStreaming
pub mod Leaving
pub mod Making
pub mod Mounted
pub mod NewContent
pub mod NewCopies
pub mod PageLists
pub mod Passing
pub mod Placing
pub mod Planned
pub mod Setup
pub mod Streaming
pub mod Taking
pub mod WrittenTables
pub use Rattle.new_contents.proofs.of_shadow_pages as of_shadow_pages
pub use Rattle.new_contents.proofs as of_new_contents
