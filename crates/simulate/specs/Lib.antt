pub mod Simulate
pub mod SimulateExactly
pub mod Rounds
