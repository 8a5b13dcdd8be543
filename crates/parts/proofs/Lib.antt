pub mod EachState
pub mod Saying
pub mod Guarding
pub mod Repeating
pub mod Lacking
pub mod Doubling
pub mod ByStates
