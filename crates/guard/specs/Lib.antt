pub mod Data
pub mod Asked
pub mod Guarding
pub mod Refusing
pub mod Keeping
pub mod Plainly
