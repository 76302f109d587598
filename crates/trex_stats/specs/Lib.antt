pub mod Arrivals
pub mod Counts
pub mod Kept
pub mod Laws
pub mod Ranges
