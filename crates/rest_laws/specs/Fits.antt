pub mod EntryEntries
pub mod Inodes
pub mod Opens
pub mod Versions
pub mod Storing
pub mod Room
pub mod Pulling
pub mod CalmAskingAsked
