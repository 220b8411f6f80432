pub mod Books
pub mod Summaries
pub mod Images
pub mod Deltas
pub mod Pieces
