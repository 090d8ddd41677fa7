pub mod Tables
pub mod Views
pub mod Versions
pub mod Notices
pub mod Opens
pub mod Looks
pub mod Reports
pub mod Storage
pub mod OperationEffects
pub mod Operations
pub mod Pulling
pub mod Requests
pub mod Using
pub mod Epochs
pub mod Adoption
pub mod Mends
pub mod Own
pub use Rattle.call_rules.specs as of_call_rules
pub use Rattle.call_rules.specs.of_commit_graph as of_commit_graph
pub use Rattle.dir_reconcile.specs.of_dir_format as of_dir_format
pub use Rattle.file_effects.specs as of_file_effects
pub use Rattle.wire_messages.specs.of_trace_book as of_trace_book
pub use Rattle.wire_messages.specs as of_wire_messages
pub use Rattle.page_cache.specs as of_page_cache
