pub mod Takes
pub mod Draws
pub mod Feeding
pub mod Supplied
