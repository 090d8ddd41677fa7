pub mod Gates
pub mod Disks
pub mod Printed
pub mod Versions
pub mod Cuts
pub mod Stopped
pub mod Promised
