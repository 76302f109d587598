mod Lists
mod Periods
mod Visiting
mod Noting
pub mod OrderLemmas
mod Members
mod Rounds
mod Walkable
mod Naming
mod Operands
mod Restarts
mod Accepted
pub mod RuleLemmas
mod FlowNumbers
pub mod FlowLemmas
