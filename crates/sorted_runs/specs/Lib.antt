pub mod Rows
pub mod Places
pub mod Edits
pub mod Copies
