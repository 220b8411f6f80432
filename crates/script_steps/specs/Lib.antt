pub mod Nodes
pub mod Naming
pub mod Shown
