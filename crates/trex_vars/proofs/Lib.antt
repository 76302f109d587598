pub mod DrawLemmas
mod Modulo
mod Quotients
mod Sound
mod RegisterTurns
pub mod BoundsLemmas
