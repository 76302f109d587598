pub mod Fix
pub mod Effect
pub mod Write
pub mod Packet
pub mod Cover
pub mod Rules
pub mod Program
