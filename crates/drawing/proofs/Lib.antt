pub mod Hex
pub mod Lines
pub mod ReadExactly
pub mod Fair
pub mod Answers
pub mod Rounds
