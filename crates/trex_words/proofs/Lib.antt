mod Faultless
mod Firsts
mod Numbers
mod Words
