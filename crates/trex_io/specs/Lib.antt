pub mod Faults
pub mod Memory
pub mod Reading
pub mod Seen
pub mod Texts
