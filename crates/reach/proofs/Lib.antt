pub mod Spreading
pub mod Marking
pub mod Along
