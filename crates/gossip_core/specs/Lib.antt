pub mod Summarizing
pub mod Replying
pub mod Sizes
pub mod Answering
pub mod Absorbing
pub mod Calls
pub mod Laws
