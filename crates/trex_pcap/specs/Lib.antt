pub mod Ahead
pub mod Following
pub mod Place
pub mod Reading
pub mod Writing
