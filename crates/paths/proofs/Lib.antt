pub mod Stepping
pub mod Walked
pub mod Stopped
