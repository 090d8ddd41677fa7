pub mod AsFiles
