pub mod Working
pub mod Pages
