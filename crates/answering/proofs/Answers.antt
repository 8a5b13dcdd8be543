-- Each call's relation, and that what computes is exactly it.
pub mod InOrder
pub mod OneRun
pub mod Models
pub mod Texts
pub mod Lines
pub mod Merged
pub mod Whole
