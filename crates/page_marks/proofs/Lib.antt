pub mod Marks
pub mod Rising
pub mod Reported
pub mod WrittenTables
