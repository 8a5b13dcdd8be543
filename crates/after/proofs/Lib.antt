pub mod Order
pub mod Leading
pub mod Answers
pub mod Determined
pub mod Models
pub mod Exactly
pub mod Demand3
