mod JsonLemmas
mod Groups
mod Decimals
mod Each
