pub mod After
pub mod Calls
pub mod AfterExactly
pub mod Demand3
