pub mod Copies
pub mod Cutting
pub mod Format
pub mod Found
pub mod Losing
pub mod Mounting
pub mod NextInode
pub mod Slots
pub mod Tables
pub use Rattle.inode_switch.specs as of_inode_switch
