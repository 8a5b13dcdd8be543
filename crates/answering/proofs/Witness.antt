-- The theorems speak of something: worked models, reached states and settling.
pub mod Reaching
pub mod Settling
