pub mod Bytes
pub mod Fields
pub mod Rows
pub mod Transport
