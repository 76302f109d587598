pub mod Variable
pub mod Value
pub mod Check
pub mod Bounds
pub mod Stand
pub mod Places
pub mod Registers
pub mod Source
