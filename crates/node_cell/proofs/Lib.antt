pub mod Places
pub mod Standing
mod Retaining
mod Keeping
mod Uncovering
mod Gossiped
