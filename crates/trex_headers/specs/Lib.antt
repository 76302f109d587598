pub mod Layer
pub mod Order
pub mod Header
pub mod Built
pub mod Network
pub mod Verified
