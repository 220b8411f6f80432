pub mod Asks
pub mod Pairs
pub mod Stores
pub mod Tops
pub mod AliveAbove
pub mod Refused
pub mod Turned
