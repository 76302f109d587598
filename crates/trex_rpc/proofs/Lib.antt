mod FeedLemmas
mod PieceLemmas
mod HeardLemmas
mod AlongLemmas
pub mod TalkLemmas
