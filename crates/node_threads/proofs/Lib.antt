pub mod Places
mod Refusals
mod Answers
mod Work
mod Lists
mod Slots
