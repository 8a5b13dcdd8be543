pub mod Answers
pub mod Determined
pub mod Rounds
pub mod Drawn
