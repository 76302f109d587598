mod Digits
mod Fronts
pub mod NumberLemmas
mod Numbers
mod Pieces
mod Powers
pub mod QuotedLemmas
