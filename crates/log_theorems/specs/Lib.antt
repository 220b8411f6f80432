pub mod Parts
pub mod OrderOfMeanings
pub mod WellFormed
pub mod Overlap
pub mod OneReader
pub mod Passing
pub mod Sample
pub mod Stored
