pub mod Opening
pub mod Entry
pub mod Orderly
