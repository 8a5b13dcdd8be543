pub mod Made
pub mod Called
pub mod Determined
pub mod Exactly
pub mod Answers
