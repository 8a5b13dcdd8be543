pub mod Filled
pub mod Calls
pub mod Runs
