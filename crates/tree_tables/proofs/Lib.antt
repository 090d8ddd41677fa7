pub mod RowLists
pub mod Counting
pub mod Alike
