pub mod Called
pub mod Determined
pub mod Exactly
pub mod Written
pub mod Answers
