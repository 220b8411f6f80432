pub mod Each
pub mod Refusals
pub mod Work
pub mod Runs
