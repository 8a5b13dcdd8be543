pub mod Pacing
pub mod Going
