pub mod Rising
pub mod Places
pub mod Scans
pub mod Facts
pub mod Books
pub mod Least
pub mod OneReason
pub mod SoundLogs
mod Earlier
mod Against
mod Raising
mod Found
