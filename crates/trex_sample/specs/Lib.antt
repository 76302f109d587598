pub mod Template
pub mod Sampled
