pub mod FirstWords
pub mod GuardFields
pub mod Long
pub mod Rendered
pub mod Together
pub mod Turns
pub mod Unchanged
