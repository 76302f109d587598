pub mod Stamp
