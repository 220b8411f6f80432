pub mod Turns
pub mod Carrying
pub mod Replying
pub mod Following
pub mod Naming
pub mod Streams
