mod OrderLemmas
mod LaneLemmas
mod CountLemmas
mod MergeLemmas
mod StepLemmas
mod BehindLemmas
