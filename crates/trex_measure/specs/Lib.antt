pub mod Measured
pub mod Refills
