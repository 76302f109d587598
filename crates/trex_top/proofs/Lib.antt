mod Lines
mod TooLong
mod EndsLemmas
mod SessionLemmas
