pub mod Reported
pub mod Longest
pub mod ReportExactly
