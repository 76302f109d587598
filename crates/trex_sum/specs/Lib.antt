pub mod Checksum
pub mod Running
pub mod Wide
