pub mod Tracks
pub mod State
pub mod Continues
pub mod Refusals
pub mod Changes
pub mod Layout
