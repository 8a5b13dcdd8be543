pub mod Rest
pub mod Most
pub mod Refusals
