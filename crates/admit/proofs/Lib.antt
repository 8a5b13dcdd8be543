pub mod Determined
pub mod Exactly
pub mod EachInTurn
pub mod Recognised
pub mod Together
pub mod Answers
