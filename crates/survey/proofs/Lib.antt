pub mod AllowedLaws
pub mod Turns
pub mod Checked
