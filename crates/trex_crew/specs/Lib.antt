pub mod Gates
pub mod Told
pub mod Crews
pub mod Lending
pub mod Workers
pub mod Rounds
pub mod Orders
pub mod Turns
