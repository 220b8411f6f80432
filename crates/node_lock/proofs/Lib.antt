pub mod Tallies
pub mod Receipts
pub mod Keeping
pub mod Passes
