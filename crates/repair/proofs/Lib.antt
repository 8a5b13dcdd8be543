pub mod Determined
pub mod Answers
pub mod Counted
pub mod Called
pub mod Exactly
