pub mod PseudoLemmas
mod Sums
mod Lengths
mod VerifiedHeaders
