pub mod Fields
pub mod Resets
