pub mod Merged
pub mod Calls
