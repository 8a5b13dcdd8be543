pub mod Simulate
pub mod Samples
pub mod Free
pub mod Call
pub mod Exactly
pub mod Examples
