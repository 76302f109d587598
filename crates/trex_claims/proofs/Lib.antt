pub mod TotalLemmas
mod Seats
mod Unchanged
mod Draws
mod Rounds
mod Puts
mod RoundEnds
pub mod SlotLemmas
pub mod CallLemmas
mod Apart
pub mod CallerLemmas
