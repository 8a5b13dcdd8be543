pub mod SetsAt
pub mod Sizes
pub mod Stepwise
pub mod Woven
pub mod Weaving
pub mod Steps
pub mod Whole
