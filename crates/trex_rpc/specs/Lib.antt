pub mod Lines
pub mod Heard
pub mod Table
pub mod Answer
pub mod Talk
pub mod Written
