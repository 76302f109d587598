pub mod Plan
pub mod Batches
pub mod Texts
pub mod Records
pub mod Works
pub mod Registers
pub mod Beginnings
pub mod Turning
