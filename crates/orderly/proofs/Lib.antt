pub mod Checking
pub mod Answers
pub mod Determined
pub mod Exactly
