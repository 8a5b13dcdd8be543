pub mod Way
pub mod Explanation
