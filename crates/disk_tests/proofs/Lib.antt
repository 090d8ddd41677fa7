pub mod AllPages
