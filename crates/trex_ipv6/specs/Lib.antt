pub mod Layer
pub mod Built
pub mod Fields
pub mod Address
