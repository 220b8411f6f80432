pub mod Tracking
pub mod Continuing
pub mod Refusing
