pub mod Repair
pub mod Repaired
pub mod Walk
