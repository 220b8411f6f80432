pub mod Cached
pub mod Images
pub mod Reading
pub mod UpToDate
