mod Periods
mod Offsets
mod Turns
mod Splits
mod Strides
mod Sent
pub mod RunLemmas
mod Reached
mod Remaining
mod Later
mod Pairs
mod Heads
mod Shares
mod Firsts
mod EntryOrder
mod Visits
mod Numbered
