pub mod Called
pub mod Exactly
pub mod Determined
pub mod Front
