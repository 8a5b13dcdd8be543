pub mod File
pub mod Draws
pub mod Call
pub mod Exactly
