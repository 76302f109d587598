pub mod Layer
pub mod Order
pub mod Built
