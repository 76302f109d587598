mod Aheads
mod Answered
pub mod FillingLemmas
mod Fronts
pub mod ReadingLemmas
