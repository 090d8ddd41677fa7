pub mod Tables
pub mod Inodes
pub use Rattle.using_site.specs as of_using_site
