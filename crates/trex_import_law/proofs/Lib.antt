pub mod EntryLemmas
pub mod ReadingLemmas
mod Fit
mod Entries
mod Rules
mod Packets
