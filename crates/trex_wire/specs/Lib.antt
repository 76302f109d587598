pub mod Wired
pub mod Lanes
pub mod Sent
pub mod Behind
