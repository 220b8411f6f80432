pub mod Keeping
pub mod Plainly
