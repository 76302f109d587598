pub mod KeyLemmas
pub mod OrderLemmas
pub mod ListLemmas
mod Least
pub mod QueueLemmas
mod Parts
pub mod EventLemmas
pub mod FrameLemmas
pub mod FeedLemmas
pub mod ShareLemmas
pub mod RunLemmas
