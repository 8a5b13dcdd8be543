pub mod Stability
pub mod Passes
