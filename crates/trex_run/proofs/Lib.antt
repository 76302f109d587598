mod ListLemmas
mod TallyLemmas
mod CaptureLemmas
mod MillLemmas
mod BaseLemmas
mod LookLemmas
mod PassLemmas
pub mod RoundsLemmas
mod ShareLemmas
mod TurnLemmas
mod HeadLemmas
mod ReadyLemmas
pub mod StateLemmas
mod CleanLemmas
