pub mod Advance
pub mod AdvanceExactly
