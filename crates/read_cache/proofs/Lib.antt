pub mod Entries
pub mod Stable
pub mod Bounds
pub mod Current
pub mod Hits
