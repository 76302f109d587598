mod Fixed
mod Steps
mod Theorem
mod Stamped
pub mod ProgramLemmas
