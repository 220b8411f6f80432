pub mod Means
pub mod Restarts
pub mod Folds
pub mod Limited
