pub mod Calls
pub mod Refusals
pub mod RunExactly
pub mod Demand3
