pub mod Stored
pub mod Placing
pub mod Raising
pub mod Adopting
pub mod Merging
