pub mod Widths
pub mod Lined
