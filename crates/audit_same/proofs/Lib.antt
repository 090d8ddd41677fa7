pub mod Alike
