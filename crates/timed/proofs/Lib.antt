pub mod Determined
pub mod Called
pub mod Exactly
pub mod Answers
