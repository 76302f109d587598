mod Clean
mod Members
mod Pushes
mod Spans
mod Standing
mod Listed
