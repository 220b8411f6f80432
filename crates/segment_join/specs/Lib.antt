pub mod Covering
pub mod Joining
pub mod Sameness
pub mod Holding
pub mod Newer
pub mod Knowing
pub mod Laws
