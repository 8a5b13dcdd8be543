pub mod Orderly
pub mod Entry
