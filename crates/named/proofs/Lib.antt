pub mod Names
pub mod Scanned
pub mod Onward
pub mod Resolved
pub mod Unbounded
pub mod AllLines
pub mod Entries
