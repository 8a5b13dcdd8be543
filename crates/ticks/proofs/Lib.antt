pub mod Falling
pub mod InPlace
pub mod ByValue
pub mod Chosen
