pub mod Repairing
pub mod RepairExactly
