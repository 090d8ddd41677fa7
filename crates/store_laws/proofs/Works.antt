pub mod PageLists
pub mod Effects
pub mod Working
