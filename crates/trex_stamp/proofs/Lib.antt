pub mod StampLemmas
mod Headers
