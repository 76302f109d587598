mod Records
mod RunLemmas
mod Slots
mod Filling
mod Registering
mod Making
