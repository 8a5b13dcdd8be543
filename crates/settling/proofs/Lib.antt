pub mod Plus
pub mod Reached
pub mod Rests
pub mod Onward
pub mod Listed
pub mod Begun
