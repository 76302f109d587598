mod Works
pub mod EntryLemmas
pub mod CoreLemmas
mod SeatDraws
mod Lent
mod Fetched
mod Turned
mod Same
