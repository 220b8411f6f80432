pub mod Lists
pub mod Putting
pub mod Shown
pub mod Adoption
pub mod Merged
pub mod Stores
