mod DraftLemmas
pub mod PlainLemmas
pub mod TextLemmas
