pub mod Bare
pub mod Sized
