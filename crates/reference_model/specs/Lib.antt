pub mod Helpers
pub mod Stands
pub mod Chained
pub mod FoundFault
pub mod PageRecords
pub mod Comparing
