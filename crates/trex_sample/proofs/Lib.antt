mod Headers
mod Values
mod Several
mod Kept
mod Layered
