pub mod Acceptance
pub mod Settling
pub mod Thesis
pub mod Reaching
