pub mod Answers
pub mod Determined
pub mod Rounds
pub mod InPlace
pub mod Called
pub mod Listed
