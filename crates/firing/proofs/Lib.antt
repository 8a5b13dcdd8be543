pub mod GuardRow
pub mod FiredAlong
pub mod Choosing
pub mod Shoots
pub mod Gives
pub mod Judging
