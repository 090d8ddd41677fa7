pub mod Numbers
pub mod Rows
pub mod Fitting
pub mod Counted
pub mod Sending
pub mod HeldReads
pub mod Caching
pub mod SiteSends
pub use Rattle.plain_facts.proofs as of_plain_facts
