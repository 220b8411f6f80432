pub mod Snapshots
pub mod Stagings
pub mod Placing
pub mod Hydrating
