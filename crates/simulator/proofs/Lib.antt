pub mod Widths
pub mod Ending
