pub mod SumLemmas
pub mod ChecksumLemmas
mod Pieces
mod WideLemmas
