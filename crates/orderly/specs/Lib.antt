pub mod Calls
pub mod OrderlyExactly
