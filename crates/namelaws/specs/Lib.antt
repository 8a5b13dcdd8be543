pub mod Sheets
pub mod Judging
pub mod OldLines
